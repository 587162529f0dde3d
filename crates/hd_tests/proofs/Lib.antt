-- Lemmas of the proofs.
mod WrittenGraphs
