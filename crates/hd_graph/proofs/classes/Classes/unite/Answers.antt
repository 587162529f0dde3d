use Rattle.std.proofs.Common.{◌≡◌, ◌⊎◌, ◌<◌, ◌≤◌, inl, inr, arith, List, ℕ}
use Rattle.std.proofs.lemmas.List.{length-set}
use Rattle.std.proofs.lemmas.Option.{slice_get_within}
use Rattle.hd_map.proofs.Places.{less_same_more}
use Rattle.hd_graph.proofs.AreOneClass.{refines-same, falling-set, joins-set, one-set, least-set, leasts-set, least-number}
use Rattle.hd_graph.proofs.classes.Classes.unite.Goals as goal

-- the one that gets a parent, and the parent, are the two
paired : (first second greater least : ℕ) → (first < second → (greater ≡ second) × (least ≡ first)) → (second ≤ first → (greater ≡ first) × (least ≡ second)) →
    ((greater ≡ first) × (least ≡ second)) ⊎ ((greater ≡ second) × (least ≡ first))
paired first second greater least less more = elim (less_same_more first second) [
  | inl h ↦ inr (less h)
  | inr r ↦ inl (more (elim r [ inl e ↦ omega arith | inr h ↦ omega arith ]))
]

pub index_mut-requires : goal.index_mut-requires
index_mut-requires c =
    let first = slice_get_within c.args.self.now.parents.items c.args.first c.args.first c.requires.first in
    let second = slice_get_within c.args.self.now.parents.items c.args.second c.args.second c.requires.second in
    omega (arith, first, second, c.max-greater.ensures)

pub returns : goal.returns
returns c =
    let parents : List ℕ = c.args.self.now.parents.items in
    let first : ℕ = c.args.first in
    let second : ℕ = c.args.second in
    let greater : ℕ = c.max-greater.result in
    let least : ℕ = c.min-least.result in
    let pair = paired first second greater least (λ h. (omega (arith, c.max-greater.ensures), omega (arith, c.min-least.ensures)))
    (λ h. (omega (arith, c.max-greater.ensures), omega (arith, c.min-least.ensures))) in
    let at = least-number parents first second c.requires.first c.requires.second greater least pair in
    record {
      falling = falling-set parents parents (refines-same parents) c.requires.falling greater least greater at (omega (arith, c.max-greater.ensures, c.min-least.ensures));
      long = length-set parents greater least;
      joins = joins-set parents first second c.requires.first c.requires.second greater least pair;
      one = one-set parents first second c.requires.first c.requires.second greater least pair;
      least = least-set parents first second c.requires.first c.requires.second greater least pair;
      leasts = leasts-set parents first second c.requires.first c.requires.second greater least pair;
    }
