use Rattle.std.proofs.Common.{◌≡◌, ◌<◌, ◌+◌, ◌++◌, ◌∷◌, [], Bool, List, None, get_or, length, set, true, subst, sym}
use Rattle.std.proofs.lemmas.List.{map-set}
use Rattle.hd_audit.specs.declared.standing.Standing.TheVariants.{Seen}
use Rattle.hd_audit.specs.declared.types.AuditLine.{AuditLine}
use Rattle.hd_audit.specs.Flooding.{AreBegun, kept_line}
use Rattle.hd_audit.specs.Standings.{is_seen, seen_of}
use Rattle.hd_audit.proofs.AreBegun.{kept-none, AreBegun-none, AreBegun-more}
use Rattle.hd_audit.proofs.Standings.{AreStanding-seen}
use Rattle.hd_audit.proofs.listing.list_kept.Goals as goal

pub loop-k-init : goal.loop-k-init
loop-k-init g c = record {
  begun = AreBegun-none (g.G.Heights.map c.args.grid.now) c.args.kept.now (seen_of c.args.standing.now.items) c.args.lines.now c.requires.blank c.requires.empty;
  standing = c.requires.standing;
}

pub loop-k-preserved : goal.loop-k-preserved
loop-k-preserved g c =
    let m = g.G.Heights.map c.args.grid.now in
    let kept = c.args.kept.now in
    let n = c.loop-k.k-index in
    let i = (get_or kept n kept-none).pit.index in
    let standing = c.loop-k.standing.items in
    let inside : n < length kept = c.loop-k-test.true in
    let pushed : c.push.new.self ≡ c.loop-k.lines ++ kept_line (get_or kept n kept-none) ∷ [] = c.in_ok-push.ensures.ok in
    record {
      begun = subst (λ (seen : List Bool). AreBegun m kept (n + 1) seen c.push.new.self) (sym (map-set is_seen standing i Seen))
          (subst (λ (lines : List AuditLine). AreBegun m kept (n + 1) (set (seen_of standing) i true) lines) (sym pushed)
          (AreBegun-more m kept n (seen_of standing) c.loop-k.lines c.requires.points c.requires.in_order inside c.loop-k.invariant.begun));
      standing = AreStanding-seen m g.S.Side.NAME None standing i c.loop-k.invariant.standing;
    }
