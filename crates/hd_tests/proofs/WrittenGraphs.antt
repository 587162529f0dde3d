-- What passes the tests of a graph and of merges is one, and within.
use Rattle.std.proofs.Common.{◌≡◌, ◌≢◌, ℕ, zero, suc, ◌<◌, Bool, true, false, List, [], ◌∷◌, length, get_or, refl, sym, ◌⊎◌, inl, inr, subst, arith, nat_eq, ltb-true}
use Rattle.std.specs.Prelude.{All, AllPairs, not, nat_lt, ◌&&◌, ◌||◌}
use Rattle.std.proofs.lemmas.Bool.Decides.{nat_tests}
use Rattle.std.proofs.lemmas.Int.{ints}
use Rattle.std.proofs.lemmas.List.Elements.{All-nil, All-cons}
use Rattle.std.proofs.lemmas.List.Kept.{AllPairs-cons}
use Rattle.hd_map.specs.declared.types.Pass.{Pass}
use Rattle.hd_map.specs.declared.types.Rank.{Rank}
use Rattle.hd_map.specs.SideLaws.{same_rank as rank_from}
use Rattle.hd_map.proofs.Items.{Contains-head, Contains-tail}
use Rattle.hd_graph.specs.declared.graph.Low.{Low}
use Rattle.hd_map.specs.declared.types.Link.{Link}
use Rattle.hd_graph.specs.declared.merges.Merge.{Merge}
use Rattle.hd_graph.specs.Graph.{IsGraph, IsPassOf, IsLow}
use Rattle.hd_graph.specs.Links.{HasEnds}
use Rattle.hd_tests.specs.WrittenGraphs.{same_rank, has_low, lacks_index, are_different, is_pass, are_passes, is_graph, are_within, have_ends, are_linked}

-- the parts of a test of two
first : (a b : Bool) → (a && b) ≡ true → a ≡ true
first true b e = refl
first false b e = e

second : (a b : Bool) → (a && b) ≡ true → b ≡ true
second true b e = e
second false b e = absurd cc

is_false : (a : Bool) → not a ≡ true → a ≡ false
is_false true e = sym e
is_false false e = refl

ranks_same : (a b : Rank) → same_rank a b ≡ true → a ≡ b
ranks_same a b e =
    let h : a.height ≡ b.height = grind (arith, ints, nat_tests) in
    let i : a.index ≡ b.index = grind (arith, ints, nat_tests) in
    rank_from a.height b.height a.index b.index h i

same_itself : (a : Rank) → same_rank a a ≡ true
same_itself a = grind (arith, ints, nat_tests)

either : (a b : Bool) → (a || b) ≡ true → (a ≡ true) ⊎ (b ≡ true)
either true b e = inl refl
either false b e = inr e

low-from : (lows : List Low) (r : Rank) → has_low lows r ≡ true → IsLow lows r
low-from [] r e = cc
low-from (x ∷ xs) r e = elim (either (same_rank x.rank r) (has_low xs r) e) [
  | inl here ↦ (x, Contains-head x xs, ranks_same x.rank r here)
  | inr later ↦ (let l = low-from xs r later in (l.0, Contains-tail x l.0 xs l.1, l.2))
]

lacking : (ys : List Low) (x : Low) → lacks_index ys x ≡ true → (k : ℕ) (d : Low) → k < length ys → x.rank.index ≢ (get_or ys k d).rank.index
lacking [] x e k d inside = absurd (omega arith)
lacking (y ∷ ys) x e zero d inside = λ same. (let f = first (not (nat_eq x.rank.index y.rank.index)) (lacks_index ys x) e in let g : nat_eq x.rank.index y.rank.index
    ≡ false = is_false (nat_eq x.rank.index y.rank.index) f in absurd (grind (arith, nat_tests)))
lacking (y ∷ ys) x e (suc k) d inside = lacking ys x (second (not (nat_eq x.rank.index y.rank.index)) (lacks_index ys x) e) k d (omega arith)

different-from : (lows : List Low) → are_different lows ≡ true → AllPairs (λ x y. x.rank.index ≢ y.rank.index) lows
different-from [] e = λ i j d less inside. absurd (omega arith)
different-from (x ∷ xs) e = AllPairs-cons (λ (x : Low) (y : Low). x.rank.index ≢ y.rank.index) x xs (lacking xs x (first (lacks_index xs x) (are_different xs) e))
    (different-from xs (second (lacks_index xs x) (are_different xs) e))

module _ (below : Rank → Rank → Bool) (lows : List Low) where
  pass-from : (p : Pass) → is_pass below lows p ≡ true → IsPassOf below lows p
  pass-from p e =
      let a = first (has_low lows p.a && has_low lows p.b && not (same_rank p.a p.b) && not (below p.at p.a)) (not (below p.at p.b)) e in
      let b = first (has_low lows p.a && has_low lows p.b && not (same_rank p.a p.b)) (not (below p.at p.a)) a in
      let c = first (has_low lows p.a && has_low lows p.b) (not (same_rank p.a p.b)) b in
      let apart : same_rank p.a p.b ≡ false = is_false (same_rank p.a p.b) (second (has_low lows p.a && has_low lows p.b) (not (same_rank p.a p.b)) b) in
      record {
        first = low-from lows p.a (first (has_low lows p.a) (has_low lows p.b) c);
        second = low-from lows p.b (second (has_low lows p.a) (has_low lows p.b) c);
        different = λ same. (let t : same_rank p.a p.b ≡ true = subst (λ r. same_rank p.a r ≡ true) same (same_itself p.a) in cc);
        above_first = is_false (below p.at p.a) (second (has_low lows p.a && has_low lows p.b && not (same_rank p.a p.b)) (not (below p.at p.a)) a);
        above_second = is_false (below p.at p.b) (second (has_low lows p.a && has_low lows p.b && not (same_rank p.a p.b) && not (below p.at p.a)) (not (below p.at p.b)) e);
      }

  passes-from : (passes : List Pass) → are_passes below lows passes ≡ true → All (IsPassOf below lows) passes
  passes-from [] e = All-nil (IsPassOf below lows)
  passes-from (p ∷ ps) e = All-cons (IsPassOf below lows) p ps (pass-from p (first (is_pass below lows p) (are_passes below lows ps) e))
      (passes-from ps (second (is_pass below lows p) (are_passes below lows ps) e))

  pub graph-from : (passes : List Pass) → is_graph below lows passes ≡ true → IsGraph below lows passes
  graph-from passes e =
      let all : (nat_lt (length lows) 2147483648 && are_different lows) ≡ true = first (nat_lt (length lows) 2147483648 && are_different lows) (are_passes below lows passes) e in
      let is_few = first (nat_lt (length lows) 2147483648) (are_different lows) all in
      record {
        few = grind (arith, nat_tests);
        different = different-from lows (second (nat_lt (length lows) 2147483648) (are_different lows) all);
        joins = passes-from passes (second (nat_lt (length lows) 2147483648 && are_different lows) (are_passes below lows passes) e);
      }

is_within : (count : ℕ) (xs : List Merge) → are_within count xs ≡ true → (k : ℕ) (d : Merge) → k < length xs → ((get_or xs k d).low < count) × ((get_or xs k d).into < count)
is_within count [] e k d inside = absurd (omega arith)
is_within count (x ∷ xs) e zero d inside =
    let ends : (nat_lt x.low count && nat_lt x.into count) ≡ true = first (nat_lt x.low count && nat_lt x.into count) (are_within count xs) e in
    (ltb-true x.low count (first (nat_lt x.low count) (nat_lt x.into count) ends), ltb-true x.into count (second (nat_lt x.low count) (nat_lt x.into count) ends))
is_within count (x ∷ xs) e (suc k) d inside = is_within count xs (second (nat_lt x.low count && nat_lt x.into count) (are_within count xs) e) k d (omega arith)

-- merges that are written down
pub within-from : (count : ℕ) (xs : List Merge) → are_within count xs ≡ true → All (λ x. (x.low < count) × (x.into < count)) xs
within-from count xs e = λ k d inside. is_within count xs e k d inside

has_ends : (count : ℕ) (xs : List Link) → have_ends count xs ≡ true → (k : ℕ) (d : Link) → k < length xs → HasEnds count (get_or xs k d)
has_ends count [] e k d inside = absurd (omega arith)
has_ends count (x ∷ xs) e zero d inside =
    let ends : (nat_lt x.a count && nat_lt x.b count) ≡ true = first (nat_lt x.a count && nat_lt x.b count) (have_ends count xs) e in
    (ltb-true x.a count (first (nat_lt x.a count) (nat_lt x.b count) ends), ltb-true x.b count (second (nat_lt x.a count) (nat_lt x.b count) ends))
has_ends count (x ∷ xs) e (suc k) d inside = has_ends count xs (second (nat_lt x.a count && nat_lt x.b count) (have_ends count xs) e) k d (omega arith)

-- lows and links that are written down
module _ (lows : List Low) (links : List Link) (e : are_linked lows links ≡ true) where
  lows-are : (nat_lt (length lows) 2147483648 && are_different lows) ≡ true
  lows-are = first (nat_lt (length lows) 2147483648 && are_different lows) (have_ends (length lows) links) e

  pub different-linked : AllPairs (λ x y. x.rank.index ≢ y.rank.index) lows
  different-linked = different-from lows (second (nat_lt (length lows) 2147483648) (are_different lows) lows-are)

  pub ends-linked : All (HasEnds (length lows)) links
  ends-linked = λ k d inside. has_ends (length lows) links (second (nat_lt (length lows) 2147483648 && are_different lows) (have_ends (length lows) links) e) k d inside
