-- The links of the points of a tile, from the first links of a part as a map of its own.
use Rattle.std.proofs.Common.{◌≡◌, ◌<◌, ◌≤◌, ◌+◌, ◌-◌, ◌*◌, ℕ, List, length, slice_index, inl, inr, refl, sym, ◌∙◌, ap, subst, arith}
use Rattle.hd_map.specs.declared.types.Pos.{Pos}
use Rattle.hd_map.specs.declared.types.Rank.{Rank}
use Rattle.hd_map.specs.declared.types.SideName.{SideName}
use Rattle.hd_map.specs.Map.{Map, InGrid, Present, cell_count, place_of}
use Rattle.hd_map.specs.Neighbour.{IsNear}
use Rattle.hd_map.specs.Rank.{rank}
use Rattle.hd_map.proofs.Points.{place_inside, same_place, present_or_not, point_at}
use Rattle.hd_steep.specs.FirstLinks.{AreFirstLinks, IsFirst, IsFirstLink}
use Rattle.hd_steep.specs.Links.{no_link}
use Rattle.hd_tiles.specs.Tile.{tile_of}
use Rattle.hd_basin.specs.declared.frame.Frame.{Frame}
use Rattle.hd_basin.specs.Basin.{IsSink, tile_at}
use Rattle.hd_basin.specs.Frames.{HoldsRound, InFrame, IsPartOf, moved}
use Rattle.hd_basin.specs.Links.{IsOnward, LeadsOnward}
use Rattle.hd_basin.specs.Sinks.{IsArea, at_place}
use Rattle.hd_basin.proofs.AreLinks.{onward-next, onward-own}
use Rattle.hd_basin.proofs.Areas.{area-grid, area-in, area-tile, place-at, place-below, point_in, point_in-frame, tile-of_point}
use Rattle.hd_basin.proofs.Frames.{step-in_frame}
use Rattle.hd_basin.proofs.PartMaps.{first-to, own-in, own-is, present-from, present-to}
use Rattle.hd_basin.proofs.SinkLaws.{pit-sink, sink_by_next}
use Rattle.hd_basin.proofs.Views.{round_self}

module _ (m n : Map) (side : SideName) (t tile : ℕ) (f w : Frame) (some : 1 ≤ t) (area : IsArea m.size t tile f) (is : IsPartOf m w n) (holds : HoldsRound m.size t tile w)
    (few : cell_count n.size < no_link)
    (firsts : List ℕ) (are : AreFirstLinks n side firsts) (i j : ℕ) (row : i < f.rows) (column : j < f.columns) where
  abbrev here : Pos
  here = point_in f i j

  in_tile : InFrame f here
  in_tile = point_in-frame f i j row column

  in_grid : InGrid m.size here
  in_grid = area-grid m.size t tile f some area here in_tile

  tile_is : tile_of m.size t here ≡ tile
  tile_is = area-tile m.size t tile f some area here in_tile

  pub part-has : InFrame w here
  part-has = holds here in_grid (round_self m.size t tile here in_grid tile_is)

  -- the same point in the part
  abbrev own : Pos
  own = record { x = f.left + j - w.left; y = f.top + i - w.top }

  own_in : InGrid n.size own
  own_in = own-in m n w is here part-has

  own_is : moved w own ≡ here
  own_is = own-is m n w is here part-has

  abbrev number : ℕ
  number = (f.top + i - w.top) * w.columns + (f.left + j - w.left)

  number_is : number ≡ place_of n.size own
  number_is = ap (λ (k : ℕ). (f.top + i - w.top) * k + (f.left + j - w.left)) (sym is.columns)

  pub number-inside : number < length firsts
  number-inside = (let below = place_inside n.size own own_in in let whole = are.whole in let e = number_is in omega (arith, below, whole, e))

  abbrev link : ℕ
  link = slice_index firsts number

  its : IsFirstLink n side number link
  its = are.each number number-inside

  round : (q : Pos) → InGrid m.size q → IsNear (w.left + own.x) q.x → IsNear (w.top + own.y) q.y → InFrame w q
  round q inside columns rows = holds q inside (record {
    from = here;
    in_grid = in_grid;
    in_tile = tile_is;
    columns = subst (λ (p : Pos). IsNear p.x q.x) own_is columns;
    rows = subst (λ (p : Pos). IsNear p.y q.y) own_is rows;
  })

  -- the point that a link leads to
  record IsTo : Type 0 where
    to : Pos
    present : Present n to
    place : link ≡ place_of n.size to
    first : IsFirst m side (rank m here) (rank m (moved w to))

  leads : Present m here → IsTo
  leads at =
      let there : Present n own = present-from m n w is own own_in (subst (Present m) (sym own_is) at) in
      let one = its.point (rank n own) (point_at n own there) (sym number_is) in
      let q = first-to m n w is side own there round one.to one.first in
      record {
        to = q.at;
        present = q.present;
        place = one.index_is ∙ ap (λ (r : Rank). r.index) q.rank_is;
        first = subst (λ (p : Pos). IsFirst m side (rank m p) (rank m (moved w q.at))) own_is q.first;
      }

  pub part-absent : link ≡ no_link → Present m here → ⊥
  part-absent none at = (let q = leads at in let below = place_inside n.size q.to q.present.in_grid in let e = q.place in omega (arith, none, e, below, few))

  pub part-here : (link ≡ no_link → ⊥) → Present m here
  part-here there = elim (present_or_not n own own_in) [
    | inl at ↦ subst (Present m) own_is (present-to m n w is own at)
    | inr absent ↦ absurd (there (its.none (λ r point e. absent (subst (Present n)
        (same_place n.size point.at own point.present.in_grid own_in (ap (λ (z : Rank). z.index) (sym point.rank_is) ∙ e ∙ number_is)) point.present))))
  ]

  module _ (there : link ≡ no_link → ⊥) where
    at : Present m here
    at = part-here there

    to_is : at_place w link ≡ moved w (leads at).to
    to_is =
        let q = leads at in
        let inside : q.to.x < w.columns = (let c = q.present.in_grid.column in let e = is.columns in omega (arith, c, e)) in
        ap (at_place w) (q.place ∙ ap (λ (k : ℕ). q.to.y * k + q.to.x) is.columns) ∙ place-at w q.to.y q.to.x inside

    pub link-below : link < w.columns * w.rows
    link-below =
        let q = leads at in
        let e = q.place ∙ ap (λ (k : ℕ). q.to.y * k + q.to.x) is.columns in
        let c = q.present.in_grid.column in
        let r = q.present.in_grid.profile in
        let columns = is.columns in
        let rows = is.rows in
        let below = place-below w q.to.y q.to.x (omega (arith, r, rows)) (omega (arith, c, columns)) in
        omega (arith, e, below)

    to-present : Present m (moved w (leads at).to)
    to-present = present-to m n w is (leads at).to (leads at).present

    tile_here : tile_at m.size t (rank m here) ≡ tile
    tile_here = tile-of_point m t (rank m here) here at refl ∙ tile_is

    from_is : at_place f (i * f.columns + j) ≡ here
    from_is = place-at f i j column

    -- it leads to a point of the tile
    pub part-inside : (l : ℕ) → l < f.columns * f.rows → at_place f l ≡ at_place w link → LeadsOnward m side t f (i * f.columns + j) l
    part-inside l below same =
        let q = leads at in
        let to : at_place f l ≡ moved w q.to = same ∙ to_is in
        let within : InFrame f (moved w q.to) = subst (InFrame f) to (step-in_frame f l below) in
        let tile_to : tile_at m.size t (rank m (moved w q.to)) ≡ tile = tile-of_point m t (rank m (moved w q.to)) (moved w q.to) to-present refl
        ∙ area-tile m.size t tile f some area (moved w q.to) within in
        let onward : IsOnward m side t (rank m here) (rank m (moved w q.to)) = elim q.first [
          | inl next ↦ onward-next m side t (rank m here) (rank m (moved w q.to)) next (tile_to ∙ sym tile_here)
          | inr pit ↦ subst (IsOnward m side t (rank m here)) (sym pit.0) (onward-own m side t (rank m here) (pit-sink m side t (rank m here) pit.1))
        ] in
        record {
          inside = below;
          present = subst (Present m) (sym to) to-present;
          onward = subst (λ (p : Pos). IsOnward m side t (rank m p) (rank m (at_place f l))) (sym from_is) (subst (λ (p : Pos). IsOnward m side t (rank m here) (rank m p)) (sym to) onward);
        }

    -- or out of it
    pub part-outside : (InFrame f (at_place w link) → ⊥) → LeadsOnward m side t f (i * f.columns + j) (i * f.columns + j)
    part-outside outside =
        let q = leads at in
        let sink : IsSink m side t (rank m here) = elim q.first [
          | inl next ↦ sink_by_next m side t here (moved w q.to) at to-present next
              (λ e. outside (subst (InFrame f) (sym to_is) (area-in m.size t tile f some area (moved w q.to) to-present.in_grid (e ∙ tile_is))))
          | inr pit ↦ pit-sink m side t (rank m here) pit.1
        ] in
        record {
          inside = place-below f i j row column;
          present = subst (Present m) (sym from_is) at;
          onward = subst (λ (p : Pos). IsOnward m side t (rank m p) (rank m p)) (sym from_is) (onward-own m side t (rank m here) sink);
        }
