-- The map of a part of a grid is a map.
use Rattle.std.specs.Prelude.{◌≡◌, ◌<◌, ◌≤ℤ◌, ◌+◌, ◌-◌, ◌*◌, ℕ, ℤ, true, false, List, Option, Some, None, slice_index_or, if◌then◌else◌}
use Rattle.std.proofs.Common.{sym, ap, subst, arith}
use Rattle.std.proofs.lemmas.List.{length-replicate}
use Rattle.std.proofs.lemmas.List.FromFn.{length-map-range_with_len, get_or-map-range_with_len}
use Rattle.hd_map.specs.declared.types.Pos.{Pos}
use Rattle.hd_map.specs.declared.types.Size.{Size}
use Rattle.hd_map.specs.declared.types.Cell.TheVariants.{Bad}
use Rattle.hd_map.specs.declared.types.DataType.{DataType}
use Rattle.hd_map.specs.Map.{IsMap, IsCellOf, cell_count, least_height, greatest_height, position_at}
use Rattle.hd_map.specs.declared.types.Adjacency.{Adjacency}
use Rattle.hd_basin.specs.declared.frame.Frame.{Frame}
use Rattle.hd_basin.specs.Frames.{is_in, seen_at, cell_of, any_type, framed_map, IsWindow}

-- a height of the type, or none, is a cell of the type
cell_of-range : (t : DataType) (o : Option ℤ) → ((h : ℤ) → o ≡ Some h → (least_height t ≤ℤ h) × (h ≤ℤ greatest_height t)) → IsCellOf t (cell_of o)
cell_of-range t (Some g) range h e = range h (let same : g ≡ h = cc in ap (λ (x : ℤ). Some x) same)
cell_of-range t None range h e = absurd cc

-- what is seen is none, or one of the heights
seen-range : (t : DataType) (f : Frame) (heights : List (Option ℤ)) (p : Pos) → ((k : ℕ) (h : ℤ) → slice_index_or heights k None ≡ Some h → (least_height t ≤ℤ h) × (h ≤ℤ greatest_height t)) →
    (h : ℤ) → seen_at f heights p ≡ Some h → (least_height t ≤ℤ h) × (h ≤ℤ greatest_height t)
seen-range t f heights p range h =
    elim (is_in f p) as (λ v. (if v then slice_index_or heights ((p.y - f.top) * f.columns + (p.x - f.left)) None else None) ≡ Some h → (least_height t ≤ℤ h) × (h ≤ℤ greatest_height t)) [
      | true ↦ λ e. range ((p.y - f.top) * f.columns + (p.x - f.left)) h e
      | false ↦ λ e. absurd cc
    ]

pub framed_map-whole : (s : Size) (a : Adjacency) (f : Frame) (heights : List (Option ℤ)) → IsWindow s f heights → IsMap (framed_map s a f heights)
framed_map-whole s a f heights w = record {
  size = w.size;
  places = omega arith;
  cells = length-map-range_with_len (λ (k : ℕ). cell_of (seen_at f heights (position_at s k))) 0 (cell_count s);
  masks = length-replicate (cell_count s) false;
  heights = λ k below. (
      let inside : k < cell_count s = rw (length-map-range_with_len (λ (k : ℕ). cell_of (seen_at f heights (position_at s k))) 0 (cell_count s)) at below in
      subst (IsCellOf any_type) (sym (get_or-map-range_with_len (λ (k : ℕ). cell_of (seen_at f heights (position_at s k))) 0 (cell_count s) k k Bad inside (omega arith)))
      (cell_of-range any_type (seen_at f heights (position_at s k)) (seen-range any_type f heights (position_at s k) w.range)));
}
