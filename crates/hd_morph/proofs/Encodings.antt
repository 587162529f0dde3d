-- Numbers that stand for heights.
use Rattle.std.proofs.Common.{◌≡◌, ◌<◌, ◌++◌, ℕ, List, length, take, drop, get_or, None, inl, inr, ap, sym, ◌∙◌, arith}
use Rattle.std.proofs.lemmas.Bool.{cases_lt}
use Rattle.std.proofs.lemmas.List.{get_or-map, get_or_past, get_or_read, length-map, map-append, take-map, drop-map}
use borrow.Rule.Slice.PartMut.{put_mid}
use Rattle.hd_map.specs.Encoding.{Encoding, values_of, number_in}
use Rattle.hd_morph.specs.Plain.{value_at}

module _ {L : Type 0} (code : Encoding L) where
  -- what a number stands for is the value at its place
  pub value_at-number_in : (xs : List L) (k : ℕ) → value_at (values_of code xs) k ≡ code.shown (number_in code xs k)
  value_at-number_in xs k = elim (cases_lt k (length xs)) [
    | inl inside ↦ get_or-map code.shown xs k code.missing None inside
    | inr past ↦
        let gone : number_in code xs k ≡ code.missing = get_or_past xs k code.missing past in
        get_or_past (values_of code xs) k None (omega (arith, length-map xs code.shown)) ∙ sym (ap code.shown gone ∙ code.missing_none)
  ]

  -- a number that is read inside a list
  pub number_in-read : (xs : List L) (k : ℕ) (x : L) → k < length xs → x ≡ get_or xs k x → x ≡ number_in code xs k
  number_in-read xs k x inside is = get_or_read xs k x inside is code.missing

  pub value_at-read : (xs : List L) (k : ℕ) (x : L) → k < length xs → x ≡ get_or xs k x → code.shown x ≡ value_at (values_of code xs) k
  value_at-read xs k x inside is = ap code.shown (number_in-read xs k x inside is) ∙ sym (value_at-number_in xs k)

  -- how many heights there are
  pub values_of-length : (xs : List L) → length (values_of code xs) ≡ length xs
  values_of-length xs = length-map xs code.shown

  -- the heights of a stretch
  pub values_of-part : (a k : ℕ) (xs : List L) → values_of code (take k (drop a xs)) ≡ take k (drop a (values_of code xs))
  values_of-part a k xs = sym (take-map code.shown k (drop a xs)) ∙ ap (take k) (sym (drop-map code.shown a xs))

  -- the heights of a list of which a stretch was written anew
  pub values_of-mid : (a k : ℕ) (xs ys : List L) → values_of code (put_mid a k xs ys) ≡ put_mid a k (values_of code xs) (values_of code ys)
  values_of-mid a k xs ys = rw (
    map-append code.shown (take a xs) (ys ++ drop k (drop a xs)),
    map-append code.shown ys (drop k (drop a xs)),
    take-map code.shown a xs,
    drop-map code.shown a xs,
    drop-map code.shown k (drop a xs),
  )
