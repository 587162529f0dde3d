-- Erosions as dilations of heights that are turned upside down.
use Rattle.std.proofs.Common.{◌≡◌, ◌<◌, ◌+◌, ◌-◌, ◌*◌, ◌≤ℤ◌, ◌+ℤ◌, ◌-ℤ◌, ℕ, ℤ, neg_ℤ, List, length, reverse, slice_index_or, Option, Some, None, IsSome, inl, inr, refl, ap, subst, sym, ◌∙◌, arith}
use Rattle.std.proofs.lemmas.Int.{ints}
use Rattle.std.proofs.lemmas.Nat.{mul-add-lt}
use Rattle.std.proofs.lemmas.List.Elements.{All-get_or, All-from_get_or}
use Rattle.std.proofs.lemmas.List.{get_or-reverse, get_or_past, length-reverse}
use Rattle.std.proofs.lemmas.Bool.{cases_lt}
use Rattle.hd_map.specs.declared.types.Pos.{Pos}
use Rattle.hd_map.specs.declared.types.Size.{Size}
use Rattle.hd_map.specs.Map.{place_of}
use Rattle.hd_map.specs.Encoding.{Encoding, values_of, number_in}
use Rattle.hd_map.specs.Lanes.{minus}
use Rattle.hd_map.proofs.Gather.{same_pos}
use Rattle.hd_morph.specs.Element.{ElementTable, IsEntry, IsElement, number_at, centre}
use Rattle.hd_morph.specs.declared.filter.Filter.TheVariants.{Erosion}
use Rattle.hd_morph.specs.Filter.{Relief, IsOffset, IsRaised, IsDilation, IsErosion}
use Rattle.hd_morph.specs.Plain.{relief, ArePlain, HasNumbersWithin}
use Rattle.hd_morph.specs.Raised.{ArePlainlyFiltered}
use Rattle.hd_morph.specs.Turned.{AreNegated, turned_table}
use Rattle.hd_morph.proofs.Encodings.{value_at-number_in}
use Rattle.hd_morph.proofs.PlainNumbers.{IsBounded-none}

-- the entry of a table at a place
abbrev entry_at : List (Option ℤ) → ℕ → Option ℤ
entry_at table place = slice_index_or table place None

-- n is the negative of f
pub record IsNegative (f n : Relief) : Type 0 where
  pub each : (p : Pos) → n p ≡ minus (f p)

-- the offset on the other side of the centre
abbrev pub opposite : ElementTable → Pos → Pos
opposite e u = record { x = e.width - 1 - u.x; y = e.height - 1 - u.y }

opposite_place : (w h x y i j : ℕ) → x + j + 1 ≡ w → y + i + 1 ≡ h → w * h - 1 - (y * w + x) ≡ i * w + j
opposite_place w h x y i j columns rows =
    let all : w * (y + i + 1) ≡ w * h = ap (λ t. w * t) rows in
    omega (arith, all)

-- a turned element has at an offset the number of the opposite one
pub turned_table-number : (e : ElementTable) (u : Pos) → length e.table ≡ e.width * e.height → u.x < e.width → u.y < e.height → number_at (turned_table e) u ≡ number_at e (opposite e u)
turned_table-number e u whole column row =
    let below : u.y * e.width + u.x < e.width * e.height = mul-add-lt u.y e.width u.x e.height row column in
    let place : length e.table - 1 - (u.y * e.width + u.x) ≡ (opposite e u).y * e.width + (opposite e u).x =
    ap (λ t. t - 1 - (u.y * e.width + u.x)) whole ∙ opposite_place e.width e.height u.x u.y (opposite e u).y (opposite e u).x (omega arith) (omega arith) in
    get_or-reverse e.table (u.y * e.width + u.x) None (omega arith) ∙ ap (entry_at e.table) place

-- turned twice an offset is itself
opposite_twice : (e : ElementTable) (u : Pos) → u.x < e.width → u.y < e.height → opposite e (opposite e u) ≡ u
opposite_twice e u column row = same_pos (opposite e (opposite e u)) u (omega arith) (omega arith)

-- an offset leads one way as the opposite one leads the other
turned_offset : (e : ElementTable) (u p q : Pos) → IsElement e → IsOffset e u p q → IsOffset e (opposite e u) q p
turned_offset e u p q is o = record {
  column = omega (arith, o.column);
  row = omega (arith, o.row);
  across = omega (arith, o.column, o.across, is.odd_width);
  down = omega (arith, o.row, o.down, is.odd_height);
}

pub minus-some : (v : Option ℤ) (z : ℤ) → minus v ≡ Some z → v ≡ Some (neg_ℤ z)
minus-some (Some x) z e = let same : neg_ℤ x ≡ z = cc in ap Some (omega (arith, ints))
minus-some None z e = let e' : None ≡ Some z = e in cc

pub minus-of : (v : Option ℤ) (z : ℤ) → v ≡ Some z → minus v ≡ Some (neg_ℤ z)
minus-of v z e = rw e

minus_none : (v : Option ℤ) → v ≡ None → minus v ≡ None
minus_none v e = rw e

-- a negative that is none comes from none
minus_gone : (v : Option ℤ) → minus v ≡ None → v ≡ None
minus_gone (Some z) e = let e' : Some (neg_ℤ z) ≡ None = e in cc
minus_gone None e = refl

-- a dilation of the negated heights by the turned element, negated, is the erosion
pub IsErosion-turned : (s : Size) (e : ElementTable) (f n d w : Relief) → IsElement e → IsNegative f n → IsDilation s (turned_table e) n d → IsNegative d w → IsErosion s e f w
IsErosion-turned s e f n d w is first dilation second = record {
  present = λ p inside z is_z.
      let top = dilation.present p inside (neg_ℤ z) (first.each p ∙ minus-of (f p) z is_z) in
      record {
        attained = λ y is_y.
            let r = top.attained (neg_ℤ y) (minus-some (d p) y (sym (second.each p) ∙ is_y)) in
            let o = r.links.is_offset in
            let sum : neg_ℤ y ≡ r.height +ℤ r.number = r.sum in
            record {
              to = r.from;
              height = neg_ℤ r.height;
              number = r.number;
              links = record {
                offset = opposite e r.links.offset;
                from = inside;
                to = r.links.from;
                is_offset = turned_offset e r.links.offset r.from p is (record { column = o.column; row = o.row; across = o.across; down = o.down });
                is_number = sym (turned_table-number e r.links.offset is.whole o.column o.row) ∙ r.links.is_number;
              };
              is_height = minus-some (f r.from) r.height (sym (first.each r.from) ∙ r.is_height);
              difference = omega (arith, ints);
            };
        reached = λ y l.
            let o = l.links.is_offset in
            let u = opposite e l.links.offset in
            let o' : IsOffset e u l.to p = turned_offset e l.links.offset p l.to is o in
            let twice : opposite e u ≡ l.links.offset = opposite_twice e l.links.offset o.column o.row in
            let r : IsRaised s (turned_table e) n p (neg_ℤ l.height +ℤ l.number) = record {
              from = l.to;
              height = neg_ℤ l.height;
              number = l.number;
              links = record {
                offset = u;
                from = l.links.to;
                to = inside;
                is_offset = record { column = o'.column; row = o'.row; across = o'.across; down = o'.down };
                is_number = turned_table-number e u is.whole o'.column o'.row ∙ ap (number_at e) twice ∙ l.links.is_number;
              };
              is_height = first.each l.to ∙ minus-of (f l.to) l.height l.is_height;
              sum = refl;
            } in
            let found = top.reached (neg_ℤ l.height +ℤ l.number) r in
            let up : (neg_ℤ l.height +ℤ l.number) ≤ℤ found.0 = found.2 in
            let is : y ≡ l.height -ℤ l.number = l.difference in
            (neg_ℤ found.0, second.each p ∙ minus-of (d p) found.0 found.1, omega (arith, ints));
      };
  absent = λ p inside none.
      second.each p ∙ minus_none (d p) (dilation.absent p inside (first.each p ∙ minus_none (f p) none));
}

-- a turned element is an element
pub IsElement-turned : (e : ElementTable) → IsElement e → IsElement (turned_table e)
IsElement-turned e is = record {
  odd_width = is.odd_width;
  odd_height = is.odd_height;
  width = is.width;
  height = is.height;
  whole = length-reverse e.table ∙ is.whole;
  entries = All-from_get_or IsEntry (reverse e.table) None (λ k below.
      let inside : k < length e.table = omega (arith, length-reverse e.table) in
      rw (get_or-reverse e.table k None inside) (All-get_or IsEntry e.table (length e.table - 1 - k) None (omega arith) is.entries));
  origin =
      let same : number_at (turned_table e) (centre e) ≡ number_at e (centre e) =
      turned_table-number e (centre e) is.whole (omega (arith, is.odd_width)) (omega (arith, is.odd_height))
      ∙ ap (number_at e) (same_pos (opposite e (centre e)) (centre e) (omega (arith, is.odd_width)) (omega (arith, is.odd_height))) in
      subst (λ (v : Option ℤ). IsSome v) (sym same) is.origin;
}

-- the table decides alone whether it makes an element
pub IsElement-renamed : (e : ElementTable) (name : List ℕ) (table : List (Option ℤ)) → table ≡ e.table → IsElement e
    → IsElement (record { name = name; width = e.width; height = e.height; table = table })
IsElement-renamed e name table same is =
    subst (λ (t : List (Option ℤ)). IsElement (record { name = name; width = e.width; height = e.height; table = t })) (sym same)
    (record { odd_width = is.odd_width; odd_height = is.odd_height; width = is.width; height = is.height; whole = is.whole; entries = is.entries; origin = is.origin })

-- the numbers of a turned element are within the limits of the element's
pub HasNumbersWithin-turned : (n : ℕ) (e : ElementTable) → HasNumbersWithin n e → HasNumbersWithin n (turned_table e)
HasNumbersWithin-turned n e numbers = record {
  each = λ k. elim (cases_lt k (length e.table)) [
    | inl inside ↦ rw (get_or-reverse e.table k None inside) (numbers.each (length e.table - 1 - k))
    | inr past ↦
        let none : slice_index_or (reverse e.table) k None ≡ None = get_or_past (reverse e.table) k None (omega (arith, length-reverse e.table)) in
        rw none (IsBounded-none n)
  ];
}

module _ {L : Type 0} (code : Encoding L) where
  -- negated numbers stand for the negative
  pub IsNegative-relief : (s : Size) (old new : List L) → AreNegated code old new → IsNegative (relief s (values_of code old)) (relief s (values_of code new))
  IsNegative-relief s old new negated = record { each = λ p. rw (value_at-number_in code new (place_of s p), value_at-number_in code old (place_of s p)) ((negated.each (place_of s p)).value) }

  -- negated numbers are plain as the numbers are
  pub ArePlain-negated : (s : Size) (n : ℕ) (old new : List L) → AreNegated code old new → ArePlain code s n old → ArePlain code s n new
  ArePlain-negated s n old new negated are = record {
    whole = negated.whole ∙ are.whole;
    plain = record {
      each = λ k.
          let is = negated.each k in
          let within = (are.plain.each k).bounded in
          record {
            bounded = record {
              least = λ z there. let h = within.greatest (neg_ℤ z) (minus-some (code.shown (number_in code old k)) z (sym is.value ∙ there)) in omega (arith, ints);
              greatest = λ z there. let h = within.least (neg_ℤ z) (minus-some (code.shown (number_in code old k)) z (sym is.value ∙ there)) in omega (arith, ints);
            };
            absent = λ none. is.absent (minus_gone (code.shown (number_in code old k)) (sym is.value ∙ none));
          };
    };
  }

  -- the negated dilation of negated numbers by the turned element is the erosion
  pub ArePlainlyFiltered-eroded : (s : Size) (e : ElementTable) (n : ℕ) (old negatives lowered new : List L) → IsElement e → AreNegated code old negatives
      → IsDilation s (turned_table e) (relief s (values_of code negatives)) (relief s (values_of code lowered)) → ArePlain code s n lowered → AreNegated code lowered new
      → ArePlainlyFiltered code Erosion s e old new
  ArePlainlyFiltered-eroded s e n old negatives lowered new is first dilation plain second = record {
    whole = second.whole ∙ plain.whole;
    filtered = IsErosion-turned s e (relief s (values_of code old)) (relief s (values_of code negatives)) (relief s (values_of code lowered)) (relief s (values_of code new)) is
        (IsNegative-relief s old negatives first) dilation
        (IsNegative-relief s lowered new second);
    absent = λ k none. (second.each k).absent (minus_gone (code.shown (number_in code lowered k)) (sym (second.each k).value ∙ none));
  }
