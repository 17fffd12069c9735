-- Document 01, "How a contract is judged": any two results that a contract allows are equal.
use Rattle.std.specs.Prelude.{◌≡◌, List, ℕ}
use borrow.Fn.Kinds.{Out, ParamKind, ResultKind, Dens, res_t, ended_of}
use contract.Lifetimes.{Lfts}
use denote.Triple.Clauses.{AtExit}

-- `post` is what a function's contract promises of its result and of its parameters at exit, and `seen` is what of them is compared.
-- From one set of arguments the contract allows one such outcome alone.
abbrev pub OneOutcome : (n : ℕ) (ps : List (ParamKind n)) (r : ResultKind n) (S : Type 0)
    → ((κs : Lfts n) → (res_t r κs).Denot → AtExit (ended_of n ps r) κs → S)
    → Out n ps r → Type 0
OneOutcome n ps r S seen post =
    (κs : Lfts n) (a : Dens κs ps)
    (z z' : (res_t r κs).Denot) (e e' : AtExit (ended_of n ps r) κs)
    → post κs a z e → post κs a z' e' → seen κs z e ≡ seen κs z' e'
