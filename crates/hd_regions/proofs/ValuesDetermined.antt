-- A parameter and a notation have one value on a map.
use Rattle.std.proofs.Common.{◌≡◌, ◌<◌, ◌*◌, ℕ, ℤ, zero, suc, List, length, Option, Some, None, refl, sym, ap, ◌∙◌, subst, arith}
use Rattle.hd_feature.specs.declared.notation.Notation.{Notation}
use Rattle.hd_feature.specs.declared.notation.Parameter.{Parameter}
use Rattle.hd_feature.specs.declared.notation.Parameter.TheVariants.{One, Sum}
use Rattle.hd_feature.specs.declared.region.Region.{Region}
use Rattle.hd_feature.specs.Value.{AreSameValues, IsValue}
use Rattle.hd_feature.proofs.Values.{IsValue-unique}
use Rattle.hd_map.specs.declared.types.Rank.{Rank}
use Rattle.hd_map.specs.declared.types.SideName.{SideName}
use Rattle.hd_map.specs.EdgePoint.{IsEdge}
use Rattle.hd_map.specs.HeightRange.{range_of}
use Rattle.hd_map.specs.Map.{Map, IsMap}
use Rattle.hd_map.specs.NearestSaddle.{NearestSaddleIs}
use Rattle.hd_map.specs.Pruning.{Leaving, IsPruning}
use Rattle.hd_map.specs.SideLaws.{below_by-order}
use Rattle.hd_map.specs.Sums.{EdgeMember, GreatestIs, IsCount, LeastIs}
use Rattle.hd_lines.specs.Lines.{IsOwnedBy}
use Rattle.hd_regions.proofs.Sums.{count-unique, greatest-unique, least-unique, same-by}
use Rattle.hd_num.specs.declared.frac.Frac.{Frac}
use Rattle.hd_num.specs.Frac.{IsFraction, sum_over_product}
use Rattle.hd_prune.specs.declared.step.Kept.{Kept}
use Rattle.hd_prune.specs.Kept.{AreKept}
use Rattle.hd_prune.specs.Staying.{AreKeptAlone}
use Rattle.hd_regions.specs.Features.{AreFeatures, IsFeature, feature_pits, lpvh}
use Rattle.hd_map.specs.Presence.{present_heights}
use Rattle.hd_regions.specs.Values.{IsNotationValue, IsParameterValue, IsSum, side_of}

module _ (m : Map) (side : SideName) (last : List Rank) where
  nearest-one : (p : Rank) (s t : Option Rank) → NearestSaddleIs m side last p s → NearestSaddleIs m side last p t → s ≡ t
  nearest-one p (Some s) (Some t) x y = ap Some ((below_by-order side).total s t
      (y.least x.reached.0 s x.reached.1 x.reached.2 x.reached.3)
      (x.least y.reached.0 t y.reached.1 y.reached.2 y.reached.3))
  nearest-one p (Some s) None x y = absurd (y x.reached.0 s x.reached.1 x.reached.2 x.reached.3)
  nearest-one p None (Some t) x y = absurd (x y.reached.0 t y.reached.1 y.reached.2 y.reached.3)
  nearest-one p None None x y = refl

  same_kept : (p q : Rank) (s t : Option Rank) → p ≡ q → s ≡ t → ◌≡◌ {A = Kept} (record { pit = p; nearest = s }) (record { pit = q; nearest = t })
  same_kept p q s t e f = cc

  -- the kept pits with their nearest saddles are determined by the set
  kept-same : (a b : List Kept) → AreKept m side last a → AreKept m side last b → a ≡ b
  kept-same a b x y = same-by (λ (k : Kept). k.pit) a b (x.pits ∙ sym y.pits) (λ k l h i e. same_kept k.pit l.pit k.nearest l.nearest e
      (nearest-one k.pit k.nearest l.nearest (x.nearest k h) (subst (λ (p : Rank). NearestSaddleIs m side last p l.nearest) (sym e) (y.nearest l i))))

  module _ (owner : Rank → Rank) where
    same_feature : (p q : Rank) (h i : ℤ) (a b : ℕ) (l n u v : Option ℤ) → p ≡ q → h ≡ i → a ≡ b → l ≡ n → u ≡ v
        → ◌≡◌ {A = Region} (record { pit = p; lpvh = h; points = a; edge_low = l; edge_high = u }) (record { pit = q; lpvh = i; points = b; edge_low = n; edge_high = v })
    same_feature p q h i a b l n u v c d e f g = cc

    abbrev Owned : Rank → Rank → Type 0
    Owned pit p = IsOwnedBy m side owner p pit

    abbrev OwnedEdge : Rank → Rank → Type 0
    OwnedEdge pit = EdgeMember (Owned pit) (IsEdge m)

    -- a kept pit has one region
    feature-one : (r s : Region) → IsFeature m side owner last r → IsFeature m side owner last s → r.pit ≡ s.pit → r ≡ s
    feature-one r s x y e =
        let nearest = nearest-one r.pit x.nearest y.nearest x.is_nearest (subst (λ (p : Rank). NearestSaddleIs m side last p y.nearest) (sym e) y.is_nearest) in
        same_feature r.pit s.pit r.lpvh s.lpvh r.points s.points r.edge_low s.edge_low r.edge_high s.edge_high e
        (x.height ∙ ap (λ p. lpvh side (range_of (present_heights m)) p x.nearest) e ∙ ap (lpvh side (range_of (present_heights m)) s.pit) nearest ∙ sym y.height)
        (count-unique (Owned r.pit) r.points s.points x.points (subst (λ p. IsCount (Owned p) s.points) (sym e) y.points))
        (least-unique (OwnedEdge r.pit) r.edge_low s.edge_low x.edge_low (subst (λ p. LeastIs (OwnedEdge p) s.edge_low) (sym e) y.edge_low))
        (greatest-unique (OwnedEdge r.pit) r.edge_high s.edge_high x.edge_high (subst (λ p. GreatestIs (OwnedEdge p) s.edge_high) (sym e) y.edge_high))

-- what is known of prunings
abbrev pub OnePruning : Type 0
OnePruning = (m : Map) (side : SideName) (thousandths : ℕ) (xs ys : List Leaving) (last end : List Rank) (mine yours : Rank → Rank)
    → IsPruning m side thousandths xs last mine → IsPruning m side thousandths ys end yours → (xs ≡ ys) × (last ≡ end) × (mine ≡ yours)

-- a pruning keeps one list of pits
pub kept-one : OnePruning → (m : Map) (side : SideName) (thousandths : ℕ) (a b : List Kept) → AreKeptAlone m side thousandths a → AreKeptAlone m side thousandths b → a ≡ b
kept-one one m side thousandths a b x y =
    let same = one m side thousandths x.steps y.steps x.last y.last x.owner y.owner x.pruning y.pruning in
    kept-same m side y.last a b (subst (λ (last : List Rank). AreKept m side last a) same.1 x.are_kept) y.are_kept

-- a pruning leaves one list of regions
pub features-one : OnePruning → (m : Map) (side : SideName) (thousandths : ℕ) (a b : List Region) → AreFeatures m side thousandths a → AreFeatures m side thousandths b → a ≡ b
features-one one m side thousandths a b x y =
    let same = one m side thousandths x.steps y.steps (feature_pits a) (feature_pits b) x.owner y.owner x.pruning y.pruning in
    same-by (λ (r : Region). r.pit) a b same.1 (λ r s h i. feature-one m side (feature_pits a) x.owner r s (x.each r h)
    (subst (λ (of : Rank → Rank). IsFeature m side of (feature_pits a) s) (sym same.2) (subst (λ (last : List Rank). IsFeature m side y.owner last s) (sym same.1) (y.each s i))))

-- what the layers below determine
pub record ValueLaws : Type 0 where
  pub prunings : OnePruning
  pub fractions : (n : ℤ) (d : ℕ) (a : ℤ) (b : ℕ) (c : ℤ) (e : ℕ) → 0 < d → IsFraction n d a b → IsFraction n d c e → (a ≡ c) × (b ≡ e)

positive : (a b : ℕ) → 0 < a → 0 < b → 0 < a * b
positive zero b x y = absurd (omega arith)
positive (suc a) zero x y = absurd (omega arith)
positive (suc a) (suc b) x y = omega arith

some_none : (c : Frac) → ◌≡◌ {A = Option Frac} (Some c) None → ⊥
some_none c e = cc

module _ (laws : ValueLaws) where
  module _ (m : Map) (whole : IsMap m) where
    -- a notation has one value
    pub notation_value-one : (n : Notation) (a b : Option Frac) → IsNotationValue m n a → IsNotationValue m n b → AreSameValues a b
    notation_value-one n a b x y =
        let same : y.features ≡ x.features = features-one laws.prunings m (side_of n.kind) n.percent.thousandths y.features x.features y.are x.are in
        IsValue-unique n x.features (length (present_heights m)) a b x.is (subst (λ (rs : List Region). IsValue n rs (length (present_heights m)) b) same y.is)

    none_same : (c d : Option Frac) → c ≡ None → d ≡ None → AreSameValues c d
    none_same (Some c) d x y = absurd (some_none c x)
    none_same None (Some d) x y = absurd (some_none d y)
    none_same None None x y = tt

    sum-one : (a b c x y z : Option Frac) → AreSameValues a x → AreSameValues b y → IsSum a b c → IsSum x y z → AreSameValues c z
    sum-one (Some a) (Some b) (Some c) (Some x) (Some y) (Some z) f g s t =
        let top : sum_over_product x.num x.den y.num y.den ≡ sum_over_product a.num a.den b.num b.den =
        ap (λ n. sum_over_product n x.den y.num y.den) (sym f.0) ∙ ap (λ n. sum_over_product a.num n y.num y.den) (sym f.1)
        ∙ ap (λ n. sum_over_product a.num a.den n y.den) (sym g.0) ∙ ap (λ n. sum_over_product a.num a.den b.num n) (sym g.1) in
        let under : x.den * y.den ≡ a.den * b.den = ap (λ n. n * y.den) (sym f.1) ∙ ap (λ n. a.den * n) (sym g.1) in
        laws.fractions (sum_over_product a.num a.den b.num b.den) (a.den * b.den) c.num c.den z.num z.den (positive a.den b.den a.reduced.positive b.reduced.positive) s
        (subst (λ d. IsFraction (sum_over_product a.num a.den b.num b.den) d z.num z.den) under (subst (λ n. IsFraction n (x.den * y.den) z.num z.den) top t))
    sum-one (Some a) (Some b) None x y z f g s t = absurd s
    sum-one (Some a) (Some b) (Some c) (Some x) (Some y) None f g s t = absurd t
    sum-one (Some a) (Some b) (Some c) (Some x) None z f g s t = absurd g
    sum-one (Some a) (Some b) (Some c) None y z f g s t = absurd f
    sum-one (Some a) None c (Some x) None z f g s t = none_same c z s t
    sum-one (Some a) None c (Some x) (Some y) z f g s t = absurd g
    sum-one (Some a) None c None y z f g s t = absurd f
    sum-one None b c (Some x) y z f g s t = absurd f
    sum-one None b c None y z f g s t = none_same c z s t

    -- and so has a parameter
    pub parameter_value-one : (p : Parameter) (a b : Option Frac) → IsParameterValue m p a → IsParameterValue m p b → AreSameValues a b
    parameter_value-one (One n) a b x y = notation_value-one n a b x y
    parameter_value-one (Sum n k) a b x y =
        sum-one x.0 x.1 a y.0 y.1 b (notation_value-one n x.0 y.0 x.2 y.2) (notation_value-one k x.1 y.1 x.3 y.3) x.4 y.4
