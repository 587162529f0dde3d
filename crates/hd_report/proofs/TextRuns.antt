-- Texts that are added one after the other.
use Rattle.std.proofs.Common.{◌≡◌, ◌++◌, ℕ, List, ap, ◌∙◌, append_assoc}

-- what is added in two steps
pub append-then : (first a x b : List ℕ) {second third : List ℕ} → second ≡ first ++ a → third ≡ second ++ x → x ≡ b → third ≡ first ++ (a ++ b)
append-then first a x b {second} one two same = two ∙ ap (λ xs. xs ++ x) one ∙ append_assoc first a x ∙ ap (λ xs. first ++ (a ++ xs)) same
