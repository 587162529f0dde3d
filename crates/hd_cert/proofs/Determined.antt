-- Two pits have one shown certificate.
use Rattle.std.proofs.Common.{◌≡◌, ◌<◌, ◌≤◌, ℕ, List, [], ◌∷◌, length, map, Option, Some, None, inl, inr, ap, ap₂, ◌∙◌, refl, sym, subst, arith}
use Rattle.std.specs.Prelude.{ℤ, All, MatchOption}
use Rattle.std.proofs.lemmas.List.{length-map}
use Rattle.std.proofs.lemmas.List.Elements.{All-head, All-tail}
use Rattle.hd_map.specs.declared.types.Adjacency.{Adjacency}
use Rattle.hd_map.specs.declared.types.Pos.{Pos}
use Rattle.hd_map.specs.declared.types.Rank.{Rank}
use Rattle.hd_map.specs.declared.types.SideName.{SideName}
use Rattle.hd_map.specs.Map.{Map, Present}
use Rattle.hd_map.specs.Path.{Leads}
use Rattle.hd_map.specs.Rank.{rank, Near}
use Rattle.hd_map.specs.Shown.{IsNotAfter, IsShownPath, IsShownCut, StandAt, indexes_of}
use Rattle.hd_map.proofs.Points.{same_point, same_index, Near-to}
use Rattle.hd_map.proofs.Trees.{same_in_order}
use Rattle.hd_check.specs.declared.types.Certificate.{Certificate}
use Rattle.hd_cert.specs.Shown.{IsWritten, IsPathAt, IsCutAt, IsShownCertificate}

head_same : {X : Type 0} (x y : X) (xs ys : List X) → x ∷ xs ≡ y ∷ ys → x ≡ y
head_same x y xs ys e = cc

tail_same : {X : Type 0} (x y : X) (xs ys : List X) → x ∷ xs ≡ y ∷ ys → xs ≡ ys
tail_same x y xs ys e = cc

-- positions of the same ranks are the same
pub rank-same_positions : (m : Map) (ps qs : List Pos) → All (Present m) ps → All (Present m) qs → map (rank m) ps ≡ map (rank m) qs → ps ≡ qs
rank-same_positions m [] [] here there e = refl
rank-same_positions m [] (q ∷ qs) here there e = absurd (let l = ap length e in let k = length-map qs (rank m) in omega (arith, l, k))
rank-same_positions m (p ∷ ps) [] here there e = absurd (let l = ap length e in let k = length-map ps (rank m) in omega (arith, l, k))
rank-same_positions m (p ∷ ps) (q ∷ qs) here there e =
    let first : p ≡ q = same_point m p q (All-head (Present m) p ps here) (All-head (Present m) q qs there) (head_same (rank m p) (rank m q) (map (rank m) ps) (map (rank m) qs) e) in
    let rest : ps ≡ qs = rank-same_positions m ps qs (All-tail (Present m) p ps here) (All-tail (Present m) q qs there) (tail_same (rank m p) (rank m q) (map (rank m) ps) (map (rank m) qs) e) in
    ap₂ (λ (r : Pos) (rs : List Pos). r ∷ rs) first rest

stand_same : (m : Map) (xs : List Rank) (ps qs : List Pos) → StandAt m xs ps → StandAt m xs qs → ps ≡ qs
stand_same m xs ps qs here there = rank-same_positions m ps qs here.0 there.0 (sym here.1 ∙ there.1)

-- lists neither of which is after the other
not_after_both : (is js : List ℕ) → length is ≡ length js → IsNotAfter is js → IsNotAfter js is → is ≡ js
not_after_both [] [] long h k = refl
not_after_both [] (j ∷ js) long h k = absurd (omega (arith, long))
not_after_both (i ∷ is) [] long h k = absurd (omega (arith, long))
not_after_both (i ∷ is) (j ∷ js) long h k = elim h [
  | inl less ↦ elim k [ inl more ↦ absurd (omega (arith, less, more)) | inr more ↦ absurd (let e = more.0 in omega (arith, less, e)) ]
  | inr rest ↦ elim k [
    | inl more ↦ absurd (let e = rest.0 in omega (arith, more, e))
    | inr back ↦ ap₂ (λ (n : ℕ) (ns : List ℕ). n ∷ ns) rest.0 (not_after_both is js (omega (arith, long)) rest.1 back.1)
  ]
]

-- paths with the same indexes are the same
same_ranks : (m : Map) (a b c d : Rank) (xs ys : List Rank) → Leads (Near m) a xs b → Leads (Near m) c ys d → indexes_of xs ≡ indexes_of ys → xs ≡ ys
same_ranks m a b c d [] [] l k e = refl
same_ranks m a b c d [] (y ∷ ys) l k e = absurd (let n = ap length e in omega (arith, n))
same_ranks m a b c d (x ∷ xs) [] l k e = absurd (let n = ap length e in omega (arith, n))
same_ranks m a b c d (x ∷ xs) (y ∷ ys) l k e =
    let first : x ≡ y = same_index m x y (Near-to m a x l.0) (Near-to m c y k.0) (head_same x.index y.index (indexes_of xs) (indexes_of ys) e) in
    ap₂ (λ (r : Rank) (rs : List Rank). r ∷ rs) first (same_ranks m x b y d xs ys l.1 k.1 (tail_same x.index y.index (indexes_of xs) (indexes_of ys) e))

-- there is one shown path
path_one : (m : Map) (side : SideName) (a b s : Rank) (xs ys : List Rank) → IsShownPath m side a b s xs → IsShownPath m side a b s ys → xs ≡ ys
path_one m side a b s xs ys h k =
    let few : length xs ≤ length ys = h.fewest ys k.over in
    let few' : length ys ≤ length xs = k.fewest xs h.over in
    let long : length xs ≡ length ys = omega (arith, few, few') in
    let l : length (indexes_of xs) ≡ length xs = length-map xs (λ (r : Rank). r.index) in
    let l' : length (indexes_of ys) ≡ length ys = length-map ys (λ (r : Rank). r.index) in
    same_ranks m a b a b xs ys h.over.path.leads k.over.path.leads
    (not_after_both (indexes_of xs) (indexes_of ys) (omega (arith, long, l, l')) (h.first ys k.over (sym long)) (k.first xs h.over long))

-- and one shown cut
cut_one : (m : Map) (side : SideName) (a b : Rank) (saddle : Option Rank) (xs ys : List Rank) → IsShownCut m side a b saddle xs → IsShownCut m side a b saddle ys → xs ≡ ys
cut_one m side a b saddle xs ys h k = same_in_order (λ (p q : Rank). p.index < q.index) (λ x y up down. omega (arith, up, down)) xs ys h.in_order k.in_order
    (λ z. ((λ c. (k.exactly z).1 ((h.exactly z).0 c)), (λ c. (h.exactly z).1 ((k.exactly z).0 c))))

path_at_one : (m : Map) (side : SideName) (a b : Pos) (s : Rank) (ps qs : List Pos) → IsPathAt m side a b s ps → IsPathAt m side a b s qs → ps ≡ qs
path_at_one m side a b s ps qs h k =
    let same = path_one m side (rank m a) (rank m b) s h.points k.points h.shown k.shown in
    stand_same m (rank m a ∷ k.points) ps qs (subst (λ (xs : List Rank). StandAt m (rank m a ∷ xs) ps) same h.stand) k.stand

cut_at_one : (m : Map) (side : SideName) (a b : Pos) (saddle : Option Rank) (ps qs : List Pos) → IsCutAt m side a b saddle ps → IsCutAt m side a b saddle qs → ps ≡ qs
cut_at_one m side a b saddle ps qs h k =
    let same = cut_one m side (rank m a) (rank m b) saddle h.points k.points h.shown k.shown in
    stand_same m k.points ps qs (subst (λ (xs : List Rank). StandAt m xs ps) same h.stand) k.stand

maybe_path_one : (m : Map) (side : SideName) (a b : Pos) (saddle : Option Rank) (ps qs : List Pos) → MatchOption saddle (ps ≡ []) (λ s. IsPathAt m side a b s ps)
    → MatchOption saddle (qs ≡ []) (λ s. IsPathAt m side a b s qs) → ps ≡ qs
maybe_path_one m side a b None ps qs h k = h ∙ sym k
maybe_path_one m side a b (Some s) ps qs h k = path_at_one m side a b s ps qs h k

written_one : (m : Map) (saddle : Option Rank) (w v : Option (Pos × ℤ)) → IsWritten m saddle w → IsWritten m saddle v → w ≡ v
written_one m None None None h k = refl
written_one m None None (Some v) h k = absurd k
written_one m None (Some w) v h k = absurd h
written_one m (Some s) None v h k = absurd h
written_one m (Some s) (Some w) None h k = absurd k
written_one m (Some s) (Some (p, h)) (Some (q, i)) hw kw =
    let at : p ≡ q = same_point m p q hw.0 kw.0 (hw.1 ∙ sym kw.1) in
    let height : h ≡ i = hw.2 ∙ sym kw.2 in
    ap₂ (λ (r : Pos) (z : ℤ). Some (r, z)) at height

same_parts : (side side' : SideName) (adjacency adjacency' : Adjacency) (from from' to to' : Pos) (saddle saddle' : Option (Pos × ℤ)) (path path' cut cut' : List Pos)
    → side ≡ side' → adjacency ≡ adjacency' → from ≡ from' → to ≡ to' → saddle ≡ saddle' → path ≡ path' → cut ≡ cut'
    → ◌≡◌ {A = Certificate} (record { side = side; adjacency = adjacency; from = from; to = to; saddle = saddle; path = path; cut = cut })
    (record { side = side'; adjacency = adjacency'; from = from'; to = to'; saddle = saddle'; path = path'; cut = cut' })
same_parts side side' adjacency adjacency' from from' to to' saddle saddle' path path' cut cut' a b c d e f g = cc

-- there is one shown certificate
pub IsShownCertificate-unique : (m : Map) (side : SideName) (a b : Pos) (saddle : Option Rank) (c d : Certificate) → IsShownCertificate m side a b saddle c
    → IsShownCertificate m side a b saddle d → c ≡ d
IsShownCertificate-unique m side a b saddle c d h k = same_parts c.side d.side c.adjacency d.adjacency c.from d.from c.to d.to c.saddle d.saddle c.path d.path c.cut d.cut
    (h.side_is ∙ sym k.side_is) (h.setting_is ∙ sym k.setting_is) (h.from_is ∙ sym k.from_is) (h.to_is ∙ sym k.to_is) (written_one m saddle c.saddle d.saddle h.saddle_is k.saddle_is)
    (maybe_path_one m side a b saddle c.path d.path h.path k.path) (cut_at_one m side a b saddle c.cut d.cut h.cut k.cut)
