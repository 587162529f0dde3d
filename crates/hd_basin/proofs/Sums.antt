-- Sums of the same set, of a set of one point, and of two sets that share none.
use Rattle.std.proofs.Common.{Bool, true, false, ◌≡◌, ◌+◌, ◌-◌, ◌<◌, ℕ, ℤ, zero, suc, List, [], ◌∷◌, ◌++◌, length, length-append, get_or, Option, Some}
use Rattle.std.proofs.Common.{None, ◌⊎◌, inl, inr, refl, sym, ◌∙◌, subst, arith}
use Rattle.std.specs.Prelude.{◌↔◌, ◌≤ℤ◌, Contains, MatchOption}
use Rattle.std.specs.List.{AllPairs}
use Rattle.std.proofs.Math.Seq.{get_or-append_right}
use Rattle.std.proofs.lemmas.Bool.{cases_lt}
use Rattle.std.proofs.lemmas.Int.{ints}
use Rattle.std.proofs.lemmas.List.{get_or_append_left}
use Rattle.std.proofs.lemmas.List.Elements.{Contains-append_left, Contains-append_right, Contains-append_cases, Contains-get_or}
use Rattle.hd_map.specs.declared.types.Rank.{Rank}
use Rattle.hd_basin.specs.declared.node.Node.{Node}
use Rattle.hd_basin.specs.Adding.{IsGreater, IsLesser, GoesOn, AddsPoint}
use Rattle.hd_map.specs.Sums.{IsCount, IsGreatest, IsLeast, EdgeMember, AreSums}

-- sums depend on the members, and on which of them are edge points
module _ (Member Other Edge OtherEdge : Rank → Type 0) (same : (r : Rank) → Member r ↔ Other r) (edges : (r : Rank) → Member r → Edge r ↔ OtherEdge r) where
  greatest-same : (A B : Rank → Type 0) → ((r : Rank) → A r ↔ B r) → (h : ℤ) → IsGreatest A h → IsGreatest B h
  greatest-same A B e h g = record { of = g.of; member = (e g.of).0 g.member; height_is = g.height_is; bound = λ r b. g.bound r ((e r).1 b) }

  least-same : (A B : Rank → Type 0) → ((r : Rank) → A r ↔ B r) → (h : ℤ) → IsLeast A h → IsLeast B h
  least-same A B e h g = record { of = g.of; member = (e g.of).0 g.member; height_is = g.height_is; bound = λ r b. g.bound r ((e r).1 b) }

  count-same : (n : ℕ) → IsCount Member n → IsCount Other n
  count-same n c = record {
    ranks = c.ranks;
    lists = record { all = λ r. (λ in_list. (same r).0 ((c.lists.all r).0 in_list), λ other. (c.lists.all r).1 ((same r).1 other)); once = c.lists.once };
    count_is = c.count_is;
  }

  edge-same : (r : Rank) → EdgeMember Member Edge r ↔ EdgeMember Other OtherEdge r
  edge-same r = (λ e. ((same r).0 e.0, (edges r e.0).0 e.1), λ e. (let mine = (same r).1 e.0 in (mine, (edges r mine).1 e.1)))

  lowest_edge-same : (o : Option ℤ) → MatchOption o ((r : Rank) → EdgeMember Member Edge r → ⊥) (IsLeast (EdgeMember Member Edge))
      → MatchOption o ((r : Rank) → EdgeMember Other OtherEdge r → ⊥) (IsLeast (EdgeMember Other OtherEdge))
  lowest_edge-same None absent = λ r e. absent r ((edge-same r).1 e)
  lowest_edge-same (Some h) least = least-same (EdgeMember Member Edge) (EdgeMember Other OtherEdge) edge-same h least

  highest_edge-same : (o : Option ℤ) → MatchOption o ((r : Rank) → EdgeMember Member Edge r → ⊥) (IsGreatest (EdgeMember Member Edge))
      → MatchOption o ((r : Rank) → EdgeMember Other OtherEdge r → ⊥) (IsGreatest (EdgeMember Other OtherEdge))
  highest_edge-same None absent = λ r e. absent r ((edge-same r).1 e)
  highest_edge-same (Some h) greatest = greatest-same (EdgeMember Member Edge) (EdgeMember Other OtherEdge) edge-same h greatest

  pub sums-same : (n : ℕ) (high least : ℤ) (low_edge high_edge : Option ℤ) → AreSums Member Edge n high least low_edge high_edge → AreSums Other OtherEdge n high least low_edge high_edge
  sums-same n high least low_edge high_edge s = record {
    counted = count-same n s.counted;
    highest = greatest-same Member Other same high s.highest;
    lowest = least-same Member Other same least s.lowest;
    lowest_edge = lowest_edge-same low_edge s.lowest_edge;
    highest_edge = highest_edge-same high_edge s.highest_edge;
  }

-- of two lists of different elements that share none the elements are different
different-append : {X : Type 0} (xs ys : List X) → AllPairs (λ a b. a ≡ b → ⊥) xs → AllPairs (λ a b. a ≡ b → ⊥) ys → ((x : X) → Contains xs x → Contains ys x → ⊥)
    → AllPairs (λ a b. a ≡ b → ⊥) (xs ++ ys)
different-append {X} xs ys one other apart i j d less below e =
    let total : length (xs ++ ys) ≡ length xs + length ys = length-append xs ys in
    elim (cases_lt j (length xs)) [
      | inl early ↦ (
          let early' : i < length xs = omega arith in
          one i j d less early (sym (get_or_append_left xs ys d i early') ∙ e ∙ get_or_append_left xs ys d j early))
      | inr late ↦ (
          let later : j - length xs < length ys = omega arith in
          let second = get_or-append_right xs ys j d late in
          elim (cases_lt i (length xs)) [
            | inl early ↦ apart (get_or xs i d) (Contains-get_or xs i d early)
                (subst (Contains ys) (sym second ∙ sym e ∙ get_or_append_left xs ys d i early) (Contains-get_or ys (j - length xs) d later))
            | inr late' ↦ other (i - length xs) (j - length xs) d (omega arith) later (sym (get_or-append_right xs ys i d late') ∙ e ∙ second)
          ])
    ]

module _ (A B : Rank → Type 0) where
  -- a member of one of the two sets
  abbrev pub Either : Rank → Type 0
  Either r = A r ⊎ B r

  pub count-merge : ((r : Rank) → A r → B r → ⊥) → (n k : ℕ) → IsCount A n → IsCount B k → IsCount Either (n + k)
  count-merge apart n k one other = record {
    ranks = one.ranks ++ other.ranks;
    lists = record {
      all = λ r. (
        λ c. elim (Contains-append_cases one.ranks other.ranks r c) [ inl x ↦ inl ((one.lists.all r).0 x) | inr y ↦ inr ((other.lists.all r).0 y) ],
        λ m. elim m [ inl a ↦ Contains-append_left one.ranks other.ranks r ((one.lists.all r).1 a) | inr b ↦ Contains-append_right one.ranks other.ranks r ((other.lists.all r).1 b) ],
      );
      once = different-append one.ranks other.ranks one.lists.once other.lists.once (λ r x y. apart r ((one.lists.all r).0 x) ((other.lists.all r).0 y));
    };
    count_is = (let e = one.count_is in let f = other.count_is in let total = length-append one.ranks other.ranks in omega arith);
  }

  pub greatest-first : (g h : ℤ) → IsGreatest A g → IsGreatest B h → h ≤ℤ g → IsGreatest Either g
  greatest-first g h one other less = record {
    of = one.of;
    member = inl one.member;
    height_is = one.height_is;
    bound = λ r m. elim m [ inl a ↦ one.bound r a | inr b ↦ (let low = other.bound r b in omega (arith, ints, low, less)) ];
  }

  pub greatest-second : (g h : ℤ) → IsGreatest A g → IsGreatest B h → g ≤ℤ h → IsGreatest Either h
  greatest-second g h one other less = record {
    of = other.of;
    member = inr other.member;
    height_is = other.height_is;
    bound = λ r m. elim m [ inl a ↦ (let low = one.bound r a in omega (arith, ints, low, less)) | inr b ↦ other.bound r b ];
  }

  pub least-first : (g h : ℤ) → IsLeast A g → IsLeast B h → g ≤ℤ h → IsLeast Either g
  least-first g h one other less = record {
    of = one.of;
    member = inl one.member;
    height_is = one.height_is;
    bound = λ r m. elim m [ inl a ↦ one.bound r a | inr b ↦ (let low = other.bound r b in omega (arith, ints, low, less)) ];
  }

  pub least-second : (g h : ℤ) → IsLeast A g → IsLeast B h → h ≤ℤ g → IsLeast Either h
  least-second g h one other less = record {
    of = other.of;
    member = inr other.member;
    height_is = other.height_is;
    bound = λ r m. elim m [ inl a ↦ (let low = one.bound r a in omega (arith, ints, low, less)) | inr b ↦ other.bound r b ];
  }

-- the sums of one point: it counts once, and all its extremes are its height
module _ (r : Rank) where
  pub count-one : IsCount (λ x. x ≡ r) 1
  count-one = record {
    ranks = r ∷ [];
    lists = record {
      all = λ x. (λ c. one x c, λ e. (0, omega arith, sym e));
      once = λ i j d less below e. absurd (omega arith);
    };
    count_is = refl;
  }
    where
      one : (x : Rank) → Contains (r ∷ []) x → x ≡ r
      one x (zero, below, e) = sym e
      one x (suc k, below, e) = absurd (omega arith)

  pub greatest-one : IsGreatest (λ x. x ≡ r) r.height
  greatest-one = record { of = r; member = refl; height_is = refl; bound = λ x e. subst (λ (y : Rank). y.height ≤ℤ r.height) (sym e) (omega (arith, ints)) }

  pub least-one : IsLeast (λ x. x ≡ r) r.height
  least-one = record { of = r; member = refl; height_is = refl; bound = λ x e. subst (λ (y : Rank). r.height ≤ℤ y.height) (sym e) (omega (arith, ints)) }

-- of the same members the greatest and the least height are the same
pub greatest-by : (P Q : Rank → Type 0) → ((x : Rank) → P x ↔ Q x) → (h : ℤ) → IsGreatest P h → IsGreatest Q h
greatest-by P Q same h g = record { of = g.of; member = (same g.of).0 g.member; height_is = g.height_is; bound = λ x q. g.bound x ((same x).1 q) }

pub least-by : (P Q : Rank → Type 0) → ((x : Rank) → P x ↔ Q x) → (h : ℤ) → IsLeast P h → IsLeast Q h
least-by P Q same h g = record { of = g.of; member = (same g.of).0 g.member; height_is = g.height_is; bound = λ x q. g.bound x ((same x).1 q) }

-- the sums of a set with one more point
module _ (Member Edge : Rank → Type 0) (r : Rank) (fresh : Member r → ⊥) where
  abbrev pub More : Rank → Type 0
  More = Either Member (λ x. x ≡ r)

  one-edge : (x : Rank) → EdgeMember More Edge x → (EdgeMember Member Edge x) ⊎ ((x ≡ r) × Edge r)
  one-edge x e = elim e.0 [ inl member ↦ inl (member, e.1) | inr same ↦ inr (same, subst Edge same e.1) ]

  pub greatest-more : (P : Rank → Type 0) → (g c : ℤ) → IsGreatest P g → IsGreater g r.height c → IsGreatest (Either P (λ x. x ≡ r)) c
  greatest-more P g c greatest is = elim is [
    | inl e ↦ subst (IsGreatest (Either P (λ x. x ≡ r))) (sym e.0) (greatest-first P (λ x. x ≡ r) g r.height greatest (greatest-one r) e.1)
    | inr e ↦ subst (IsGreatest (Either P (λ x. x ≡ r))) (sym e.0) (greatest-second P (λ x. x ≡ r) g r.height greatest (greatest-one r) e.1)
  ]

  pub least-more : (P : Rank → Type 0) → (g c : ℤ) → IsLeast P g → IsLesser g r.height c → IsLeast (Either P (λ x. x ≡ r)) c
  least-more P g c least is = elim is [
    | inl e ↦ subst (IsLeast (Either P (λ x. x ≡ r))) (sym e.0) (least-first P (λ x. x ≡ r) g r.height least (least-one r) e.1)
    | inr e ↦ subst (IsLeast (Either P (λ x. x ≡ r))) (sym e.0) (least-second P (λ x. x ≡ r) g r.height least (least-one r) e.1)
  ]

  -- where it is no edge point the edge points stay
  same-edges : (Edge r → ⊥) → (x : Rank) → EdgeMember Member Edge x ↔ EdgeMember More Edge x
  same-edges inner x = (λ e. (inl e.0, e.1), λ e. elim (one-edge x e) [ inl old ↦ old | inr new ↦ absurd (inner new.1) ])

  -- and else it is one more
  more-edges : Edge r → (x : Rank) → Either (EdgeMember Member Edge) (λ y. y ≡ r) x ↔ EdgeMember More Edge x
  more-edges edge x = (λ e. elim e [ inl old ↦ (inl old.0, old.1) | inr same ↦ (inr same, subst Edge (sym same) edge) ], λ e. elim (one-edge x e) [ inl old ↦ inl old | inr new ↦ inr new.0 ])

  greatest-alone : Edge r → ((x : Rank) → EdgeMember Member Edge x → ⊥) → IsGreatest (EdgeMember More Edge) r.height
  greatest-alone edge none = greatest-by (λ x. x ≡ r) (EdgeMember More Edge) (λ x.
      (λ same. (inr same, subst Edge (sym same) edge), λ e. elim (one-edge x e) [ inl old ↦ absurd (none x old) | inr new ↦ new.0 ])) r.height (greatest-one r)

  least-alone : Edge r → ((x : Rank) → EdgeMember Member Edge x → ⊥) → IsLeast (EdgeMember More Edge) r.height
  least-alone edge none = least-by (λ x. x ≡ r) (EdgeMember More Edge) (λ x. (
    λ same. (inr same, subst Edge (sym same) edge),
    λ e. elim (one-edge x e)
        [ inl old ↦ absurd (none x old) | inr new ↦ new.0 ],
  )) r.height (least-one r)

  sums-edge_high : (edge : Bool) → (edge ≡ true → Edge r) → (edge ≡ false → Edge r → ⊥) → (o o' : Option ℤ) → GoesOn IsGreater edge o r.height o' →
      MatchOption o ((x : Rank) → EdgeMember Member Edge x → ⊥) (IsGreatest (EdgeMember Member Edge)) → MatchOption o' ((x : Rank) → EdgeMember More Edge x → ⊥) (IsGreatest (EdgeMember More Edge))
  sums-edge_high false on off o o' e h = subst (λ (p : Option ℤ). MatchOption p ((x : Rank) → EdgeMember More Edge x → ⊥) (IsGreatest (EdgeMember More Edge))) (sym e) (kept o h)
    where
      kept : (o : Option ℤ) → MatchOption o ((x : Rank) → EdgeMember Member Edge x → ⊥) (IsGreatest (EdgeMember Member Edge))
          → MatchOption o ((x : Rank) → EdgeMember More Edge x → ⊥) (IsGreatest (EdgeMember More Edge))
      kept None none = λ x e. none x ((same-edges (off refl) x).1 e)
      kept (Some g) greatest = greatest-by (EdgeMember Member Edge) (EdgeMember More Edge) (same-edges (off refl)) g greatest
  sums-edge_high true on off None o' e none = subst (λ (p : Option ℤ). MatchOption p ((x : Rank) → EdgeMember More Edge x → ⊥) (IsGreatest (EdgeMember More Edge))) (sym e)
      (greatest-alone (on refl) none)
  sums-edge_high true on off (Some g) None e h = absurd e
  sums-edge_high true on off (Some g) (Some c) e h = greatest-by (Either (EdgeMember Member Edge) (λ y. y ≡ r)) (EdgeMember More Edge) (more-edges (on refl)) c
      (greatest-more (EdgeMember Member Edge) g c h e)

  sums-edge_low : (edge : Bool) → (edge ≡ true → Edge r) → (edge ≡ false → Edge r → ⊥) → (o o' : Option ℤ) → GoesOn IsLesser edge o r.height o' →
      MatchOption o ((x : Rank) → EdgeMember Member Edge x → ⊥) (IsLeast (EdgeMember Member Edge)) → MatchOption o' ((x : Rank) → EdgeMember More Edge x → ⊥) (IsLeast (EdgeMember More Edge))
  sums-edge_low false on off o o' e h = subst (λ (p : Option ℤ). MatchOption p ((x : Rank) → EdgeMember More Edge x → ⊥) (IsLeast (EdgeMember More Edge))) (sym e) (kept o h)
    where
      kept : (o : Option ℤ) → MatchOption o ((x : Rank) → EdgeMember Member Edge x → ⊥) (IsLeast (EdgeMember Member Edge))
          → MatchOption o ((x : Rank) → EdgeMember More Edge x → ⊥) (IsLeast (EdgeMember More Edge))
      kept None none = λ x e. none x ((same-edges (off refl) x).1 e)
      kept (Some g) least = least-by (EdgeMember Member Edge) (EdgeMember More Edge) (same-edges (off refl)) g least
  sums-edge_low true on off None o' e none = subst (λ (p : Option ℤ). MatchOption p ((x : Rank) → EdgeMember More Edge x → ⊥) (IsLeast (EdgeMember More Edge))) (sym e) (least-alone (on refl) none)
  sums-edge_low true on off (Some g) None e h = absurd e
  sums-edge_low true on off (Some g) (Some c) e h = least-by (Either (EdgeMember Member Edge) (λ y. y ≡ r)) (EdgeMember More Edge) (more-edges (on refl)) c
      (least-more (EdgeMember Member Edge) g c h e)

  -- a node that counts one more point has the sums with it
  pub sums-more : (edge : Bool) → (edge ≡ true → Edge r) → (edge ≡ false → Edge r → ⊥) → (old new : Node) → AddsPoint r.height edge old new →
      AreSums Member Edge old.points old.high old.least old.edge_low old.edge_high → AreSums More Edge new.points new.high new.least new.edge_low new.edge_high
  sums-more edge on off old new adds sums = record {
    counted = subst (IsCount More) (sym adds.points) (count-merge Member (λ x. x ≡ r) (λ x member same. fresh (subst Member same member)) old.points 1 sums.counted (count-one r));
    highest = greatest-more Member old.high new.high sums.highest adds.high;
    lowest = least-more Member old.least new.least sums.lowest adds.least;
    lowest_edge = sums-edge_low edge on off old.edge_low new.edge_low adds.edge_low sums.lowest_edge;
    highest_edge = sums-edge_high edge on off old.edge_high new.edge_high adds.edge_high sums.highest_edge;
  }
