-- The present points among the first ones by index.
use Rattle.std.proofs.Common.{◌≡◌, ◌≤◌, ◌+◌, ◌++◌, ◌∙◌, ℕ, zero, suc, ℤ, List, [], ◌∷◌, length, map, Option, Some, None, refl, ap, sym, subst, arith, append-nil}
use Rattle.std.specs.Prelude.{fold}
use Rattle.std.specs.Int.{int_min, int_max}
use Rattle.std.specs.List.{cons_option, filter_map, range_with_len}
use Rattle.std.proofs.lemmas.List.{length_push}
use Rattle.std.proofs.lemmas.List.Elements.{filter_map-append}
use Rattle.std.proofs.lemmas.List.FromFn.{map-range_with_len_more}
use Rattle.std.proofs.lemmas.List.Sums.{fold_push}
use Rattle.hd_map.specs.Map.{Map, height_at, position_at}
use Rattle.hd_map.specs.declared.presence.Presence.{Presence}
use Rattle.hd_map.specs.Presence.{IsPresence, heights_below, presence_with}
use Rattle.hd_map.specs.HeightRange.{range_of, widened}

-- the heights with that of one more point
pub heights_more : (m : Map) (n : ℕ) → heights_below m (n + 1) ≡ heights_below m n ++ cons_option (height_at m (position_at m.size n)) []
heights_more m n =
    ap (filter_map (height_at m)) (map-range_with_len_more (position_at m.size) 0 n n (omega arith))
    ∙ filter_map-append (height_at m) (map (position_at m.size) (range_with_len 0 n)) (position_at m.size n ∷ [])

-- the range with one more height
pub range_more : (heights : List ℤ) (height : ℤ) → range_of (heights ++ height ∷ []) ≡ Some (widened (range_of heights) height)
range_more [] height = refl
range_more (first ∷ heights) height =
    ap (λ least. Some (record { least = least; greatest = fold int_max first (heights ++ height ∷ []) })) (fold_push int_min first heights height)
    ∙ ap (λ greatest. Some (record { least = int_min (fold int_min first heights) height; greatest = greatest })) (fold_push int_max first heights height)

-- one more point, with its height or none
counted : (heights : List ℤ) (seen : Presence) (height : Option ℤ) → IsPresence heights seen → IsPresence (heights ++ cons_option height []) (presence_with seen height)
counted heights seen None is = subst (λ list. IsPresence list seen) (sym (append-nil heights)) is
counted heights seen (Some height) is = record {
  count = ap (λ n. n + 1) is.count ∙ sym (length_push heights height);
  range = ap (λ range. Some (widened range height)) is.range ∙ sym (range_more heights height);
}

-- the points with an index below n + 1
pub presence_more : (m : Map) (n : ℕ) (seen next : Presence) (height : Option ℤ) → IsPresence (heights_below m n) seen
    → height ≡ height_at m (position_at m.size n) → next ≡ presence_with seen height → IsPresence (heights_below m (n + 1)) next
presence_more m n seen next height is here with_it =
    let listed : heights_below m (n + 1) ≡ heights_below m n ++ cons_option height [] = heights_more m n ∙ ap (λ h. heights_below m n ++ cons_option h []) (sym here) in
    rw (with_it, listed) (counted (heights_below m n) seen height is)

-- no more than n + 1 of them are present
pub presence_few : (n : ℕ) (seen next : Presence) (height : Option ℤ) → seen.count ≤ n → next ≡ presence_with seen height → next.count ≤ n + 1
presence_few n seen next None few with_it = rw with_it (omega (arith, few))
presence_few n seen next (Some height) few with_it = rw with_it (omega (arith, few))

-- no more than n heights
pub heights_below-few : (m : Map) (n : ℕ) → length (heights_below m n) ≤ n
heights_below-few m zero = omega arith
heights_below-few m (suc n) = rw (let more : suc n ≡ n + 1 = omega arith in ap (λ k. length (heights_below m k)) more ∙ ap length (heights_more m n))
    (one (heights_below m n) (height_at m (position_at m.size n)) (heights_below-few m n))
  where
    one : (heights : List ℤ) (height : Option ℤ) → length heights ≤ n → length (heights ++ cons_option height []) ≤ suc n
    one heights None few = rw (append-nil heights) (omega (arith, few))
    one heights (Some h) few = rw (length_push heights h) (omega (arith, few))
