-- Dilation and erosion are adjoint; an opening is an opening of itself, and a closing one of itself.
use Rattle.std.proofs.Common.{◌≡◌, ◌<◌, ◌≤ℤ◌, ◌+ℤ◌, ◌-ℤ◌, ℤ, Option, Some, None, IsSome, inl, inr, refl, ap, sym, ◌∙◌, arith}
use Rattle.std.proofs.lemmas.Int.{ints}
use Rattle.std.proofs.lemmas.Bool.{true≢false}
use Rattle.hd_map.specs.declared.types.Pos.{Pos}
use Rattle.hd_map.specs.declared.types.Size.{Size}
use Rattle.hd_map.specs.Map.{InGrid}
use Rattle.hd_morph.specs.Element.{ElementTable, IsElement, number_at, centre}
use Rattle.hd_morph.specs.Filter.{Relief, Links, IsRaised, IsLowered, IsDilation, IsErosion, IsOpening, IsClosing}
use Rattle.hd_morph.specs.Compare.{HaveSamePoints, IsNowhereAbove}
use Rattle.hd_morph.proofs.PlainNumbers.{Option-some_or_none}

-- two numbers of one value are one
pub Some-unique : (v : Option ℤ) (x y : ℤ) → v ≡ Some x → v ≡ Some y → x ≡ y
Some-unique v x y a b = cc

-- the dilation of f is nowhere above g exactly where f is nowhere above the erosion of g
pub IsNowhereAbove-dilation : (s : Size) (e : ElementTable) (f g d w : Relief) → HaveSamePoints s f g → IsDilation s e f d → IsErosion s e g w → IsNowhereAbove s d g → IsNowhereAbove s f w
IsNowhereAbove-dilation s e f g d w same raised lowered below = record {
  each = λ p inside x y is_x is_y.
      let here = same.there p inside x is_x in
      let low = (lowered.present p inside here.0 here.1).attained y is_y in
      let away = same.back low.to low.links.to low.height low.is_height in
      let r : IsRaised s e f low.to (x +ℤ low.number) = record { from = p; height = x; number = low.number; links = low.links; is_height = is_x; sum = refl } in
      let top = (raised.present low.to low.links.to away.0 away.1).reached (x +ℤ low.number) r in
      let bound : top.0 ≤ℤ low.height = below.each low.to low.links.to top.0 low.height top.1 low.is_height in
      let is : y ≡ low.height -ℤ low.number = low.difference in
      let up : (x +ℤ low.number) ≤ℤ top.0 = top.2 in
      omega (arith, ints);
}

pub IsNowhereAbove-erosion : (s : Size) (e : ElementTable) (f g d w : Relief) → HaveSamePoints s f g → IsDilation s e f d → IsErosion s e g w → IsNowhereAbove s f w → IsNowhereAbove s d g
IsNowhereAbove-erosion s e f g d w same raised lowered below = record {
  each = λ p inside x y is_x is_y.
      let here = same.back p inside y is_y in
      let high = (raised.present p inside here.0 here.1).attained x is_x in
      let away = same.there high.from high.links.from high.height high.is_height in
      let r : IsLowered s e g high.from (y -ℤ high.number) = record { to = p; height = y; number = high.number; links = high.links; is_height = is_y; difference = refl } in
      let low = (lowered.present high.from high.links.from away.0 away.1).reached (y -ℤ high.number) r in
      let bound : high.height ≤ℤ low.0 = below.each high.from high.links.from high.height low.0 high.is_height low.1 in
      let is : x ≡ high.height +ℤ high.number = high.sum in
      let down : low.0 ≤ℤ (y -ℤ high.number) = low.2 in
      omega (arith, ints);
}

-- the element has a number at its centre
pub record HasOrigin (e : ElementTable) : Type 0 where
  pub some_columns : 0 < e.width
  pub some_rows : 0 < e.height
  pub number : ℤ
  pub is_number : number_at e (centre e) ≡ Some number

number_of : (v : Option ℤ) → IsSome v → (z : ℤ) × (v ≡ Some z)
number_of (Some z) some = (z, refl)
number_of None some = absurd (true≢false (sym some))

pub HasOrigin-element : (e : ElementTable) → IsElement e → HasOrigin e
HasOrigin-element e is =
    let number = number_of (number_at e (centre e)) is.origin in
    record { some_columns = omega (arith, is.odd_width); some_rows = omega (arith, is.odd_height); number = number.0; is_number = number.1 }

-- from each position of the grid the centre of the element leads back to it
pub Links-centre : (s : Size) (e : ElementTable) (o : HasOrigin e) (p : Pos) → InGrid s p → Links s e p p o.number
Links-centre s e o p inside = record {
  offset = centre e;
  from = inside;
  to = inside;
  is_offset = record { column = omega (arith, o.some_columns); row = omega (arith, o.some_rows); across = refl; down = refl };
  is_number = o.is_number;
}

-- a dilation has the points of what it comes from
pub HaveSamePoints-dilation : (s : Size) (e : ElementTable) (f d : Relief) → HasOrigin e → IsDilation s e f d → HaveSamePoints s f d
HaveSamePoints-dilation s e f d o raised = record {
  there = λ p inside z is_z.
      let top = (raised.present p inside z is_z).reached (z +ℤ o.number) (record { from = p; height = z; number = o.number; links = Links-centre s e o p inside; is_height = is_z; sum = refl }) in
      (top.0, top.1);
  back = λ p inside z is_z. elim (Option-some_or_none (f p)) [
    | inl some ↦ some
    | inr none ↦ let gone : d p ≡ None = raised.absent p inside none in cc
  ];
}

-- an erosion has the points of what it comes from
pub HaveSamePoints-erosion : (s : Size) (e : ElementTable) (f w : Relief) → HasOrigin e → IsErosion s e f w → HaveSamePoints s f w
HaveSamePoints-erosion s e f w o lowered = record {
  there = λ p inside z is_z.
      let low = (lowered.present p inside z is_z).reached (z -ℤ o.number) (record
      { to = p; height = z; number = o.number; links = Links-centre s e o p inside; is_height = is_z; difference = refl }) in
      (low.0, low.1);
  back = λ p inside z is_z. elim (Option-some_or_none (f p)) [
    | inl some ↦ some
    | inr none ↦ let gone : w p ≡ None = lowered.absent p inside none in cc
  ];
}

pub HaveSamePoints-then : (s : Size) (f g h : Relief) → HaveSamePoints s f g → HaveSamePoints s g h → HaveSamePoints s f h
HaveSamePoints-then s f g h a b = record {
  there = λ p inside z is_z. let y = a.there p inside z is_z in b.there p inside y.0 y.1;
  back = λ p inside z is_z. let y = b.back p inside z is_z in a.back p inside y.0 y.1;
}

pub HaveSamePoints-back : (s : Size) (f g : Relief) → HaveSamePoints s f g → HaveSamePoints s g f
HaveSamePoints-back s f g a = record { there = a.back; back = a.there }

below_itself : (s : Size) (f : Relief) → IsNowhereAbove s f f
below_itself s f = record { each = λ p inside x y a b. let e : x ≡ y = Some-unique (f p) x y a b in omega (arith, ints) }

-- an opening has the points of what it comes from
pub HaveSamePoints-opening : (s : Size) (e : ElementTable) (f g : Relief) → HasOrigin e → IsOpening s e f g → HaveSamePoints s f g
HaveSamePoints-opening s e f g o once = HaveSamePoints-then s f once.between g (HaveSamePoints-erosion s e f once.between o once.first) (HaveSamePoints-dilation s e once.between g o once.second)

-- a closing has the points of what it comes from
pub HaveSamePoints-closing : (s : Size) (e : ElementTable) (f g : Relief) → HasOrigin e → IsClosing s e f g → HaveSamePoints s f g
HaveSamePoints-closing s e f g o once = HaveSamePoints-then s f once.between g (HaveSamePoints-dilation s e f once.between o once.first) (HaveSamePoints-erosion s e once.between g o once.second)

-- an opening is the opening of itself
pub IsOpening-of_itself : (s : Size) (e : ElementTable) (f g : Relief) → HasOrigin e → IsOpening s e f g → IsOpening s e g g
IsOpening-of_itself s e f g o once =
    let w : Relief = once.between in
    let f_w : HaveSamePoints s f w = HaveSamePoints-erosion s e f w o once.first in
    let w_g : HaveSamePoints s w g = HaveSamePoints-dilation s e w g o once.second in
    -- it is nowhere above what it comes from
    let below : IsNowhereAbove s g f = IsNowhereAbove-erosion s e w f g w (HaveSamePoints-back s f w f_w) once.second once.first (below_itself s w) in
    record {
      between = w;
      first = record {
        present = λ p inside z is_z.
            let y = w_g.back p inside z is_z in
            let x = f_w.back p inside y.0 y.1 in
            record {
              attained = λ v is_v.
                  let low = (once.first.present p inside x.0 x.1).attained v is_v in
                  let u = f_w.there low.to low.links.to low.height low.is_height in
                  let r : IsRaised s e w low.to (v +ℤ low.number) = record { from = p; height = v; number = low.number; links = low.links; is_height = is_v; sum = refl } in
                  let top = (once.second.present low.to low.links.to u.0 u.1).reached (v +ℤ low.number) r in
                  let up : (v +ℤ low.number) ≤ℤ top.0 = top.2 in
                  let down : top.0 ≤ℤ low.height = below.each low.to low.links.to top.0 low.height top.1 low.is_height in
                  let is : v ≡ low.height -ℤ low.number = low.difference in
                  let same : top.0 ≡ low.height = omega (arith, ints) in
                  record { to = low.to; height = low.height; number = low.number; links = low.links; is_height = top.1 ∙ ap Some same; difference = is };
              reached = λ v l.
                  let u = w_g.back l.to l.links.to l.height l.is_height in
                  let r : IsRaised s e w l.to (y.0 +ℤ l.number) = record { from = p; height = y.0; number = l.number; links = l.links; is_height = y.1; sum = refl } in
                  let top = (once.second.present l.to l.links.to u.0 u.1).reached (y.0 +ℤ l.number) r in
                  let one : top.0 ≡ l.height = Some-unique (g l.to) top.0 l.height top.1 l.is_height in
                  let up : (y.0 +ℤ l.number) ≤ℤ top.0 = top.2 in
                  let is : v ≡ l.height -ℤ l.number = l.difference in
                  (y.0, y.1, omega (arith, ints));
            };
        absent = λ p inside none. elim (Option-some_or_none (w p)) [
          | inl some ↦ let there = w_g.there p inside some.0 some.1 in let e' : None ≡ Some there.0 = sym none ∙ there.1 in cc
          | inr gone ↦ gone
        ];
      };
      second = once.second;
    }

-- a closing is the closing of itself
pub IsClosing-of_itself : (s : Size) (e : ElementTable) (f g : Relief) → HasOrigin e → IsClosing s e f g → IsClosing s e g g
IsClosing-of_itself s e f g o once =
    let d : Relief = once.between in
    let f_d : HaveSamePoints s f d = HaveSamePoints-dilation s e f d o once.first in
    let d_g : HaveSamePoints s d g = HaveSamePoints-erosion s e d g o once.second in
    -- what it comes from is nowhere above it
    let above : IsNowhereAbove s f g = IsNowhereAbove-dilation s e f d d g f_d once.first once.second (below_itself s d) in
    record {
      between = d;
      first = record {
        present = λ p inside z is_z.
            let y = d_g.back p inside z is_z in
            let x = f_d.back p inside y.0 y.1 in
            record {
              attained = λ v is_v.
                  let high = (once.first.present p inside x.0 x.1).attained v is_v in
                  let u = f_d.there high.from high.links.from high.height high.is_height in
                  let l : IsLowered s e d high.from (v -ℤ high.number) = record { to = p; height = v; number = high.number; links = high.links; is_height = is_v; difference = refl } in
                  let low = (once.second.present high.from high.links.from u.0 u.1).reached (v -ℤ high.number) l in
                  let down : low.0 ≤ℤ (v -ℤ high.number) = low.2 in
                  let up : high.height ≤ℤ low.0 = above.each high.from high.links.from high.height low.0 high.is_height low.1 in
                  let is : v ≡ high.height +ℤ high.number = high.sum in
                  let same : low.0 ≡ high.height = omega (arith, ints) in
                  record { from = high.from; height = high.height; number = high.number; links = high.links; is_height = low.1 ∙ ap Some same; sum = is };
              reached = λ v r.
                  let u = d_g.back r.from r.links.from r.height r.is_height in
                  let l : IsLowered s e d r.from (y.0 -ℤ r.number) = record { to = p; height = y.0; number = r.number; links = r.links; is_height = y.1; difference = refl } in
                  let low = (once.second.present r.from r.links.from u.0 u.1).reached (y.0 -ℤ r.number) l in
                  let one : low.0 ≡ r.height = Some-unique (g r.from) low.0 r.height low.1 r.is_height in
                  let down : low.0 ≤ℤ (y.0 -ℤ r.number) = low.2 in
                  let is : v ≡ r.height +ℤ r.number = r.sum in
                  (y.0, y.1, omega (arith, ints));
            };
        absent = λ p inside none. elim (Option-some_or_none (d p)) [
          | inl some ↦ let there = d_g.there p inside some.0 some.1 in let e' : None ≡ Some there.0 = sym none ∙ there.1 in cc
          | inr gone ↦ gone
        ];
      };
      second = once.second;
    }
