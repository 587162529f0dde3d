use Rattle.std.proofs.Common.{◌≡◌, Option, true, false, sym, ◌∙◌, subst}
use Rattle.std.specs.BTreeMap.{get}
use Rattle.hd_basin.specs.declared.part.Seam.{Seam}
use Rattle.hd_basin.specs.Lowest.{is_lower, key_of, pair_cmp}
use Rattle.hd_basin.proofs.HasLowest.{notes-new, notes-none}
use Rattle.hd_basin.proofs.lowest.note.Goals as goal

pub returns-then-not-is_lower : goal.returns-then-not-is_lower
returns-then-not-is_lower g c =
    let side = g.S.Side.NAME in
    let s : Seam = c.args.seam in
    let known : c.copied-known.result ≡ get pair_cmp c.args.lowest.now (key_of s) = c.copied-known.ensures ∙ c.get.ensures.value in
    notes-none side c.args.lowest.now s (subst (λ (o : Option Seam). is_lower side o s ≡ false) known (sym c.is_lower.ensures ∙ c.if-not-is_lower.true))

pub returns : goal.returns
returns g c =
    let side = g.S.Side.NAME in
    let s : Seam = c.args.seam in
    let known : c.copied-known.result ≡ get pair_cmp c.args.lowest.now (key_of s) = c.copied-known.ensures ∙ c.get.ensures.value in
    notes-new side c.args.lowest.now c.insert.new.self s (subst (λ (o : Option Seam). is_lower side o s ≡ true) known (sym c.is_lower.ensures ∙ c.if-not-is_lower.false)) c.in_ok-insert.ensures.updates
