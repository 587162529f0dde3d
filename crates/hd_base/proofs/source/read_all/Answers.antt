use Rattle.std.proofs.Common.{◌≡◌, ◌≢◌, ◌≤◌, ◌<◌, ◌+◌, ◌++◌, ◌∙◌, ℕ, List, Ok, Err, Some, inl, inr, rules, drop, take, refl, sym, subst, arith, length, length-take}
use Rattle.std.specs.Prelude.{Result}
use Rattle.std.proofs.lemmas.Grind.{common_steps}
use Rattle.hd_base.specs.declared.source.ReadError.{ReadError}
use Rattle.hd_base.specs.declared.source.ReadError.TheVariants.{Memory, ReadFault, TooLong}
use Rattle.hd_base.specs.Causes.{Rose}
use Rattle.hd_base.specs.Told.{HasReadCause}
use Rattle.hd_base.proofs.Pieces.{TakesFew-kept, TakesFew-more, pieces-past_limit, pieces-whole}
use Rattle.hd_base.proofs.source.read_all.Given.{Over}
use Rattle.hd_base.proofs.source.read_all.Goals as goal
use Rattle.hd_base.proofs.source.read_all.Goals.{Then-len-limit}

abbrev Answer : Type 0
Answer = Result (List ℕ) ReadError

abbrev Same : Answer → Answer → Type 0
Same a b = a ≡ b

-- the answers are apart
fault≢long : (n : ℕ) → Same (Err ReadFault) (Err (TooLong n)) → ⊥
fault≢long n e = cc

memory≢long : (n : ℕ) → Same (Err Memory) (Err (TooLong n)) → ⊥
memory≢long n e = cc

bytes≢long : (bytes : List ℕ) (n : ℕ) → Same (Ok bytes) (Err (TooLong n)) → ⊥
bytes≢long bytes n e = cc

memory≢fault : Same (Err Memory) (Err ReadFault) → ⊥
memory≢fault e = cc

bytes≢fault : (bytes : List ℕ) → Same (Ok bytes) (Err ReadFault) → ⊥
bytes≢fault bytes e = cc

long≢fault : (n : ℕ) → Same (Err (TooLong n)) (Err ReadFault) → ⊥
long≢fault n e = cc

its_limit : (limit n : ℕ) → Same (Err (TooLong limit)) (Err (TooLong n)) → n ≡ limit
its_limit limit n e = cc

-- no call failed
no_fault : (before mid now : ℕ) (result : Result (List ℕ) ReadError) → mid ≡ before → now ≡ mid → result ≢ Err ReadFault → HasReadCause before now result
no_fault before mid now result was same other = record { later = omega arith; fault = λ e. absurd (other e); no_fault = λ _. same ∙ was }

pub pieces-preserved : goal.pieces-preserved
pieces-preserved g c = grind (arith, common_steps)

pub returns-in_default-clause-file : goal.returns-in_default-clause-file
returns-in_default-clause-file g c = record { whole = λ bytes told. tt; within = tt; too_long = λ bytes told n e. absurd (fault≢long n e); its_limit = λ n e. absurd (fault≢long n e) }

pub returns-in_default-clause-left : goal.returns-in_default-clause-left
returns-in_default-clause-left g c = λ bytes told. record {
  whole = tt;
  too_long = λ n e. absurd (fault≢long n e);
  few = inl (TakesFew-kept bytes c.pieces.bytes.items c.args.limit _ _ _ told c.pieces.invariant.read c.in_default.ensures.bytes c.pieces.invariant.within);
}

pub returns-in_default-clause-cause : goal.returns-in_default-clause-cause
returns-in_default-clause-cause g c =
    let now = g.S.Source.faults c.read.new.self in
    record {
      later = subst (λ n. n ≤ now) c.pieces.invariant.faults c.in_default.ensures.cause.later;
      fault = λ e. subst (λ n. Rose n now) c.pieces.invariant.faults c.in_default.ensures.cause.failed;
      no_fault = λ other. absurd (other refl);
    }

pub returns-then-is_err-2-clause-file : goal.returns-then-is_err-2-clause-file
returns-then-is_err-2-clause-file g c = record { whole = λ bytes told. tt; within = tt; too_long = λ bytes told n e. absurd (memory≢long n e); its_limit = λ n e. absurd (memory≢long n e) }

pub returns-then-is_err-2-clause-left : goal.returns-then-is_err-2-clause-left
returns-then-is_err-2-clause-left g c = λ bytes told. record {
  whole = tt;
  too_long = λ n e. absurd (memory≢long n e);
  few = inl (TakesFew-more bytes c.pieces.bytes.items c.read.new.into c.args.limit c.in-Ok.count _ _ _ told c.pieces.invariant.read c.in-Ok.ensures.bytes.0
      (omega (arith, c.read.auto.into, length-take c.min-room.result c.pieces.piece)));
}

pub returns-then-is_err-2-clause-open : goal.returns-then-is_err-2-clause-open
returns-then-is_err-2-clause-open g c = λ other. c.in-Ok.ensures.open

pub returns-then-is_err-2-clause-cause : goal.returns-then-is_err-2-clause-cause
returns-then-is_err-2-clause-cause g c = no_fault _ _ _ _ c.pieces.invariant.faults c.in-Ok.ensures.cause.accepted memory≢fault

pub returns-then-count-eq0-clause-file : goal.returns-then-count-eq0-clause-file
returns-then-count-eq0-clause-file g c = record {
  whole = λ bytes told. c.from_vec.ensures ∙ (pieces-whole bytes c.pieces.bytes.items c.read.new.into c.in-Ok.count _ _ _ told c.pieces.invariant.read c.in-Ok.ensures.bytes.0 c.if-count-eq0.true
      (c.in-Ok.ensures.bytes.1 c.if-count-eq0.true (omega (arith, c.read.auto.into, length-take c.min-room.result c.pieces.piece)))).0;
  within = subst (λ (xs : List ℕ). length xs ≤ c.args.limit) (sym c.from_vec.ensures) c.pieces.invariant.within;
  too_long = λ bytes told n e. absurd (bytes≢long _ n e);
  its_limit = λ n e. absurd (bytes≢long _ n e);
}

pub returns-then-count-eq0-clause-left : goal.returns-then-count-eq0-clause-left
returns-then-count-eq0-clause-left g c = λ bytes told. record {
  whole = (pieces-whole bytes c.pieces.bytes.items c.read.new.into c.in-Ok.count _ _ _ told c.pieces.invariant.read c.in-Ok.ensures.bytes.0 c.if-count-eq0.true
      (c.in-Ok.ensures.bytes.1 c.if-count-eq0.true (omega (arith, c.read.auto.into, length-take c.min-room.result c.pieces.piece)))).1;
  too_long = λ n e. absurd (bytes≢long _ n e);
  few = inl (TakesFew-more bytes c.pieces.bytes.items c.read.new.into c.args.limit c.in-Ok.count _ _ _ told c.pieces.invariant.read c.in-Ok.ensures.bytes.0
      (omega (arith, c.read.auto.into, length-take c.min-room.result c.pieces.piece)));
}

pub returns-then-count-eq0-clause-cause : goal.returns-then-count-eq0-clause-cause
returns-then-count-eq0-clause-cause g c = no_fault _ _ _ _ c.pieces.invariant.faults c.in-Ok.ensures.cause.accepted (bytes≢fault _)

pub returns-then-len-limit-clause-cause : goal.returns-then-len-limit-clause-cause
returns-then-len-limit-clause-cause g c = no_fault _ _ _ _ c.pieces.invariant.faults c.in-Ok.ensures.cause.accepted (long≢fault _)

pub returns-then-is_err-clause-left : goal.returns-then-is_err-clause-left
returns-then-is_err-clause-left g c = λ bytes told. record { whole = tt; too_long = λ n e. absurd (fault≢long n e); few = inr (refl, search rules) }

pub returns-then-is_err-clause-cause : goal.returns-then-is_err-clause-cause
returns-then-is_err-clause-cause g c = record { later = c.open.ensures.cause.later; fault = λ e. search rules; no_fault = λ other. absurd (other refl) }

-- what is known once the limit is passed
past : (g : Over) (c : Then-len-limit g) (bytes : List ℕ) → g.S.Source.files c.args.source.now c.args.name.now ≡ Some bytes
    → (g.S.Source.left c.read.new.self ≡ Some (drop (c.args.limit + 1) bytes)) × (c.args.limit < length bytes)
past g c bytes told =
    let all : c.extend_from_slice.new.self.items ≡ c.pieces.bytes.items ++ take c.in-Ok.count c.read.new.into = grind (arith, common_steps) in
    pieces-past_limit bytes c.pieces.bytes.items c.read.new.into c.extend_from_slice.new.self.items c.args.limit c.in-Ok.count _ _ _ told c.pieces.invariant.read c.in-Ok.ensures.bytes.0
    (omega (arith, c.read.auto.into, length-take c.min-room.result c.pieces.piece)) all (omega arith)

pub returns-then-len-limit-clause-left : goal.returns-then-len-limit-clause-left
returns-then-len-limit-clause-left g c = λ bytes told. record {
  whole = tt;
  too_long = λ n e. (past g (goal.at.returns-then-len-limit-clause-left g c).Then-len-limit bytes told).0;
  few = inl (c.args.limit + 1, omega arith, (past g (goal.at.returns-then-len-limit-clause-left g c).Then-len-limit bytes told).0);
}

pub returns-then-len-limit-clause-file : goal.returns-then-len-limit-clause-file
returns-then-len-limit-clause-file g c = record {
  whole = λ bytes told. tt;
  within = tt;
  too_long = λ bytes told n e. (past g (goal.at.returns-then-len-limit-clause-file g c).Then-len-limit bytes told).1;
  its_limit = λ n e. its_limit _ _ e;
}
