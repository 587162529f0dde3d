-- A map in tiles comes from itself, and from what a map comes from that it comes from.
use Rattle.std.proofs.Common.{◌≡◌, ℕ, List, length, get_or, Some, slice_get, refl, sym, ◌∙◌, ap, subst, arith}
use Rattle.std.proofs.lemmas.Option.{slice_get_within, slice_get-get_or, same_Some}
use Rattle.hd_map.specs.declared.types.Pos.{Pos}
use Rattle.hd_map.specs.declared.types.Size.{Size}
use Rattle.hd_map.specs.Map.{Map, InGrid}
use Rattle.hd_tiles.specs.Tile.{IsRound, Agree, tile_count}
use Rattle.hd_tiles.specs.Stamps.{ComesFrom}

-- a map agrees with itself
pub agree-itself : (m : Map) (t tile : ℕ) → Agree m m t tile
agree-itself m t tile = record { size = refl; adjacency = refl; cells = λ p inside round. refl; masks = λ p inside round. refl }

-- maps that agree with one between them agree
pub agree-onward : (l m n : Map) (t tile : ℕ) → Agree l m t tile → Agree m n t tile → Agree l n t tile
agree-onward l m n t tile a b =
    let inside = λ (p : Pos) (h : InGrid l.size p). subst (λ (s : Size). InGrid s p) a.size h in
    let round = λ (p : Pos) (h : IsRound l.size t tile p). subst (λ (s : Size). IsRound s t tile p) a.size h in
    record {
      size = a.size ∙ b.size;
      adjacency = a.adjacency ∙ b.adjacency;
      cells = λ p h r. a.cells p h r ∙ b.cells p (inside p h) (round p r);
      masks = λ p h r. a.masks p h r ∙ b.masks p (inside p h) (round p r);
    }

pub comes-itself : (m : Map) (t : ℕ) (stamps : List ℕ) → ComesFrom m t stamps m t stamps
comes-itself m t stamps = record {
  size = refl;
  same_side = refl;
  not_less = λ tile was now before after. (let e : was ≡ now = same_Some was now (sym before ∙ after) in omega (arith, e));
  stays = λ tile stamp before after. agree-itself m t tile;
}

-- there is a stamp at each place of a list of the same length
between : (xs ys : List ℕ) (tile was : ℕ) → length ys ≡ length xs → slice_get xs tile ≡ Some was → (mid : ℕ) × (slice_get ys tile ≡ Some mid)
between xs ys tile was same before =
    let inside = slice_get_within xs tile was before in
    (get_or ys tile 0, slice_get-get_or ys tile 0 (omega (arith, inside, same)))

pub comes-onward : (a : Map) (t : ℕ) (xs : List ℕ) (b : Map) (u : ℕ) (ys : List ℕ) (c : Map) (v : ℕ) (zs : List ℕ) → length ys ≡ length xs
    → ComesFrom a t xs b u ys → ComesFrom b u ys c v zs → ComesFrom a t xs c v zs
comes-onward a t xs b u ys c v zs same first second = record {
  size = first.size ∙ second.size;
  same_side = first.same_side ∙ second.same_side;
  not_less = λ tile was now before after. (
      let m = between xs ys tile was same before in
      let low = first.not_less tile was m.0 before m.1 in
      let high = second.not_less tile m.0 now m.1 after in
      omega (arith, low, high));
  stays = λ tile stamp before after. (
      let m = between xs ys tile stamp same before in
      let low = first.not_less tile stamp m.0 before m.1 in
      let high = second.not_less tile m.0 stamp m.1 after in
      let e : m.0 ≡ stamp = omega (arith, low, high) in
      let mid : slice_get ys tile ≡ Some stamp = subst (λ (x : ℕ). slice_get ys tile ≡ Some x) e m.1 in
      agree-onward a b c v tile (subst (λ (s : ℕ). Agree a b s tile) second.same_side (first.stays tile stamp before mid)) (second.stays tile stamp mid after));
}

-- one size has one number of tiles
pub counted-as : (stamps : List ℕ) (s z : Size) (t : ℕ) → s ≡ z → length stamps ≡ tile_count s t → length stamps ≡ tile_count z t
counted-as stamps s z t same whole = subst (λ (x : Size). length stamps ≡ tile_count x t) same whole

-- where a size and a side stay, so does the number of stamps
pub count-stays : (xs ys : List ℕ) (s z old new : Size) (t u : ℕ) → s ≡ old → z ≡ new → old ≡ new → t ≡ u → length xs ≡ tile_count s t → length ys ≡ tile_count z u
    → length ys ≡ length xs
count-stays xs ys s z old new t u before after same side had has =
    let sizes : z ≡ s = after ∙ sym same ∙ sym before in
    has ∙ ap (λ (x : Size). tile_count x u) sizes ∙ ap (λ (k : ℕ). tile_count s k) (sym side) ∙ sym had
