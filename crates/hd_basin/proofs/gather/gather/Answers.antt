use Rattle.std.proofs.Common.{◌≡◌, ◌*◌, ℕ, List, length, Some, sym, ◌∙◌, arith, ap, subst, slice_get}
use Rattle.std.specs.Prelude.{replicate}
use Rattle.std.proofs.lemmas.List.{length-replicate, get_or-replicate}
use Rattle.std.proofs.lemmas.Option.{slice_get_within, get_or_from_slice_get}
use Rattle.hd_basin.specs.Sinks.{no_node}
use Rattle.hd_basin.proofs.Gathers.{gathered-none}
use Rattle.hd_basin.proofs.gather.gather.Goals as goal

-- no number is there but the one that stands for none
none-there : (numbers : List ℕ) (n : ℕ) → numbers ≡ replicate n no_node → (j i : ℕ) → slice_get numbers j ≡ Some i → i ≡ no_node
none-there numbers n e j i at =
    let at' : slice_get (replicate n no_node) j ≡ Some i = ap (λ (xs : List ℕ). slice_get xs j) (sym e) ∙ at in
    let inside = slice_get_within (replicate n no_node) j i at' in
    sym (get_or_from_slice_get (replicate n no_node) j i 0 at') ∙ get_or-replicate n j no_node 0 (rw (length-replicate n no_node) at inside)

pub loop-row-init : goal.loop-row-init
loop-row-init g c =
    let numbers : List ℕ = c.in_ok-vec.field-0.items in
    let f = c.args.plot.area in
    let n : ℕ = f.columns * f.rows in
    let all : numbers ≡ replicate n no_node = c.in_ok-vec.ensures.items_if_clones_equal (λ _ e. e) in
    let zero : 0 * f.columns ≡ 0 = omega arith in
    rw (c.new.ensures.items, c.in_ok-with_capacity.ensures.items, zero) (gathered-none
    (g.G.Heights.map c.args.grid.now) g.S.Side.NAME c.args.plot.tiling.side c.args.plot.tile f numbers (ap (λ (xs : List ℕ). length xs) all ∙ length-replicate n no_node)
    (none-there numbers n all))

pub returns : goal.returns
returns g c =
    let f = c.args.plot.area in
    let all : c.loop-row.row * f.columns ≡ f.columns * f.rows = (let e : c.loop-row.row ≡ f.rows = omega arith in subst (λ (r : ℕ). r * f.columns ≡ f.columns * f.rows) (sym e) (omega arith)) in
    rw (← all) c.loop-row.invariant
