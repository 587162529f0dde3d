mod Answered
mod Runs
mod Checks
mod SavedPieces
mod Savings
mod Stops
mod FedPieces
mod IsOfKind
