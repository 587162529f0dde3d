-- How a pool keeps in step: a change that leaves the seen tiles, and a tile that is made anew.
use Rattle.std.proofs.Common.{◌≡◌, ◌≤◌, ℕ, List, length, get_or, Option, Some, ◌⊎◌, inl, inr, refl, sym, ◌∙◌, ap, subst, arith}
use Rattle.std.specs.Prelude.{slice_get}
use Rattle.hd_map.specs.declared.types.Pos.{Pos}
use Rattle.hd_map.specs.declared.types.Size.{Size}
use Rattle.hd_map.specs.declared.types.Rank.{Rank}
use Rattle.hd_map.specs.declared.types.SideName.{SideName}
use Rattle.hd_map.specs.Map.{Map, InGrid}
use Rattle.hd_basin.specs.declared.node.Node.{Node}
use Rattle.hd_tiles.specs.Tile.{tile_of}
use Rattle.hd_basin.specs.Basin.{tile_at}
use Rattle.hd_map.specs.Rank.{Near}
use Rattle.hd_map.proofs.Points.{neighbour-sym}
use Rattle.hd_map.proofs.Higher.{higher-sym}
use Rattle.hd_basin.specs.Basin.{IsBasinMeeting, IsBasinPass}
use Rattle.hd_tiles.specs.Stamps.{ComesFrom}
use Rattle.std.proofs.lemmas.Option.{slice_get_within, slice_get-get_or}
use Rattle.hd_basin.specs.Pool.{IsTileRight, IsRightOn}
use Rattle.hd_basin.proofs.Views.{Keeps, agree-show, keeps-show, keeps-sym, sink_kept, node_kept, label_kept, meeting_kept, pass_kept}

-- what is right on some tiles is right on those that a map keeps of them
pub right-kept : (m n : Map) (side : SideName) (t : ℕ) (Seen Still : ℕ → Type 0) (HasNode : ℕ → Node → Type 0) (label : Pos → Option Rank) (Has : Rank → Rank → Rank → Type 0) →
    m.size ≡ n.size → ((k : ℕ) → Still k → Seen k × Keeps m n t k) → IsRightOn m side t Seen HasNode label Has → IsRightOn n side t Still HasNode label Has
right-kept m n side t Seen Still HasNode label Has size still right =
    let tiles = λ (r : Rank). ap (λ (s : Size). tile_at s t r) size in
    record {
      nodes = λ tile x fresh has. (let k = still tile fresh in let was = right.nodes tile x k.0 has in (node_kept m n side t tile k.1 x was.1 was.0, was.1));
      sinks = λ s fresh sink. (
          let i : ℕ = tile_at m.size t s in
          let k = still i (subst Still (sym (tiles s)) fresh) in
          let was = right.sinks s k.0 (sink_kept n m side t i (keeps-sym m n t i k.1) s (sym (tiles s)) sink) in
          record { node = was.node; has = subst (λ (j : ℕ). HasNode j was.node) (tiles s) was.has; low = was.low });
      labels = λ p inside fresh. (
          let back = subst (λ (s : Size). InGrid s p) (sym size) inside in
          let at : tile_of n.size t p ≡ tile_of m.size t p = ap (λ (s : Size). tile_of s t p) (sym size) in
          let k = still (tile_of m.size t p) (subst Still at fresh) in
          label_kept m n side t (tile_of m.size t p) k.1 p back refl (label p) (right.labels p back k.0));
      passes = λ a b w one other has. (
          let i : ℕ = tile_at m.size t a in
          let j : ℕ = tile_at m.size t b in
          let k = still i (subst Still (sym (tiles a)) one) in
          let l = still j (subst Still (sym (tiles b)) other) in
          pass_kept m n side t i j k.1 l.1 a b w refl refl (right.passes a b w k.0 l.0 has));
      meetings = λ a b u one other apart meet. (
          let i : ℕ = tile_at m.size t a in
          let j : ℕ = tile_at m.size t b in
          let k = still i (subst Still (sym (tiles a)) one) in
          let l = still j (subst Still (sym (tiles b)) other) in
          right.meetings a b u k.0 l.0 apart (meeting_kept n m side t i j (keeps-sym m n t i k.1) (keeps-sym m n t j l.1) a b u (sym (tiles a)) (sym (tiles b)) meet));
    }

-- a tile whose seen stamp is its present one had that stamp before, and stays as it was
pub fresh-before : (t : ℕ) (old : Map) (before : List ℕ) (new : Map) (after : List ℕ) → length before ≡ length after → ComesFrom old t before new t after →
    (k stamp : ℕ) → slice_get after k ≡ Some stamp → ((was : ℕ) → slice_get before k ≡ Some was → stamp ≤ was) → (slice_get before k ≡ Some stamp) × Keeps old new t k
fresh-before t old before new after long comes k stamp now low =
    let inside = slice_get_within after k stamp now in
    let was : slice_get before k ≡ Some (get_or before k 0) = slice_get-get_or before k 0 (omega (arith, long, inside)) in
    let ahead = low (get_or before k 0) was in
    let rise = comes.not_less k (get_or before k 0) stamp was now in
    let same : get_or before k 0 ≡ stamp = omega (arith, ahead, rise) in
    let earlier : slice_get before k ≡ Some stamp = was ∙ ap (λ (x : ℕ). Some x) same in
    (earlier, keeps-show old new t k (agree-show old new t k (comes.stays k stamp earlier now)))

-- two points are near both ways
pub near-sym : (m : Map) (a b : Rank) → Near m a b → Near m b a
near-sym m a b near = record { from = near.to; to = near.from; neighbour = neighbour-sym m near.from near.to near.neighbour; from_rank = near.to_rank; to_rank = near.from_rank }

-- two basins meet both ways
pub meeting-sym : (m : Map) (side : SideName) (t : ℕ) (a b w : Rank) → IsBasinMeeting m side t a b w → IsBasinMeeting m side t b a w
meeting-sym m side t a b w meet = record {
  from = meet.to;
  to = meet.from;
  near = near-sym m meet.from meet.to meet.near;
  from_in = meet.to_in;
  to_in = meet.from_in;
  higher =
      meet.higher ∙ higher-sym side meet.from meet.to;
}

-- and have their pass both ways
pub pass-sym : (m : Map) (side : SideName) (t : ℕ) (a b w : Rank) → IsBasinPass m side t a b w → IsBasinPass m side t b a w
pass-sym m side t a b w pass = record { apart = λ e. pass.apart (sym e); meeting = meeting-sym m side t a b w pass.meeting; lowest = λ u meet. pass.lowest u (meeting-sym m side t b a u meet) }

-- where one more tile is right, with its passes to those that are, they all are
pub right-extended : (m : Map) (side : SideName) (t tile : ℕ) (Seen Now : ℕ → Type 0) (HasNode : ℕ → Node → Type 0) (label : Pos → Option Rank) (Has : Rank → Rank → Rank → Type 0) →
    ((j : ℕ) → Now j → (j ≡ tile) ⊎ Seen j) → IsTileRight m side t tile Seen HasNode label Has → IsRightOn m side t Seen HasNode label Has → IsRightOn m side t Now HasNode label Has
right-extended m side t tile Seen Now HasNode label Has now new old = record {
  nodes = λ j n fresh has. elim (now j fresh) [
    | inl e ↦ (let h = new.nodes n (subst (λ (i : ℕ). HasNode i n) e has) in (h.0, h.1 ∙ sym e))
    | inr o ↦ old.nodes j n o has
  ];
  sinks = λ s fresh sink. elim (now (tile_at m.size t s) fresh) [
    | inl e ↦ (let h = new.sinks s e sink in record { node = h.node; has = subst (λ (i : ℕ). HasNode i h.node) (sym e) h.has; low = h.low })
    | inr o ↦ old.sinks s o sink
  ];
  labels = λ p inside fresh. elim (now (tile_of m.size t p) fresh) [ inl e ↦ new.labels p inside e | inr o ↦ old.labels p inside o ];
  passes = λ a b w one two has. elim (now (tile_at m.size t a) one) [
    | inl e ↦ new.passes a b w e (now (tile_at m.size t b) two) has
    | inr o ↦ elim (now (tile_at m.size t b) two) [
      | inl f ↦ pass-sym m side t b a w (new.passes b a w f (inr o) (new.both_ways a b w has))
      | inr u ↦ old.passes a b w o u has
    ]
  ];
  meetings = λ a b u one two apart meet. elim (now (tile_at m.size t a) one) [
    | inl e ↦ new.meetings a b u e (now (tile_at m.size t b) two) apart meet
    | inr o ↦ elim (now (tile_at m.size t b) two) [
      | inl f ↦ (let w = new.meetings b a u f (inr o) (λ e. apart (sym e)) (meeting-sym m side t a b u meet) in (w.0, new.both_ways b a w.0 w.1))
      | inr v ↦ old.meetings a b u o v apart meet
    ]
  ];
}
