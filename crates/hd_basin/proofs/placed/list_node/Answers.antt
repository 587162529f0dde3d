use Rattle.std.proofs.Common.{◌≡◌, ◌++◌, ◌∷◌, [], ◌∙◌, ap, sym, subst, ℕ, List, true, false, rules}
use Rattle.std.specs.Option.{is_none}
use Rattle.hd_basin.specs.declared.placed.PlacedPit.{PlacedPit}
use Rattle.hd_basin.specs.Placed.{AreListed, unknown}
use Rattle.hd_basin.proofs.AreListed.{listed-pass, listed-pit, none-of, some-of}
use Rattle.hd_basin.proofs.placed.list_node.Goals as goal
use Rattle.hd_basin.proofs.placed.list_node.Goals.{then-is_none+in_ok-push, else-is_none}

pub returns : goal.returns
returns c = λ nodes are. (
    let n = c.args.node in
    let old : List ℕ = c.args.numbers.now.items in
    let numbers : c.push-2.new.self.items ≡ old ++ unknown ∷ [] = c.in_ok-push-2.ensures.items in
    subst (λ (ks : List ℕ). AreListed (nodes ++ n ∷ []) c.if-is_none.pits.items ks) (sym numbers) (elim c.if-is_none.branch [
      | then-is_none+in_ok-push w ↦ (
          let pits : c.if-is_none.pits.items ≡ c.args.pits.now.items ++ record { pit = n.low; place = w.len.result } ∷ [] = ap (λ v. v.items) w.pits-is ∙ w.in_ok-push.ensures.items in
          subst (λ (ps : List PlacedPit). AreListed (nodes ++ n ∷ []) ps (old ++ unknown ∷ []))
          (ap (λ k. c.args.pits.now.items ++ record { pit = n.low; place = k } ∷ []) (sym (w.len.ensures ∙ c.args.numbers.now.ok.0)) ∙ sym pits)
          (listed-pit nodes n c.args.pits.now.items old are (none-of n.flows (let e : is_none n.flows ≡ true = search rules in e))))
      | else-is_none w ↦ subst (λ (ps : List PlacedPit). AreListed (nodes ++ n ∷ []) ps (old ++ unknown ∷ [])) (ap (λ v. v.items) (sym w.pits-is))
          (listed-pass nodes n c.args.pits.now.items old are (some-of n.flows (let e : is_none n.flows ≡ false = search rules in e)))
    ]))
