-- The maps that a log stands for.
use Rattle.std.proofs.Common.{◌≡◌, ◌+◌, ◌-◌, ℕ, zero, suc, List, [], ◌∷◌, ◌++◌, length, map, take, drop, get_or, All, Option, Some, None, refl, sym, ap, subst, ◌∙◌, length-drop, arith}
use Rattle.std.proofs.Math.ListN.{length-take}
use Rattle.std.proofs.lemmas.List.Elements.{All-take, All-drop, All-push}
use Rattle.std.proofs.lemmas.List.{take_more, take-take, take-append-le, take_at, take_all, get_or-take, get_or_at, length_push}
use Rattle.std.proofs.lemmas.Option.{get_or_from_slice_get, slice_get-get_or, slice_get_within}
use Rattle.circular_buffer.specs.Buffer.{Buffer, buffer, keep_last, last_item}
use Rattle.hd_map.specs.declared.types.Adjacency.{Adjacency}
use Rattle.hd_map.specs.Map.{Map}
use Rattle.hd_map.specs.Sets.{under}
use Rattle.hd_edit.specs.declared.entry.Entry.{Entry}
use Rattle.hd_edit.specs.Entry.{before_entry, IsEntry}
use Rattle.hd_edit.specs.Board.{log_places, kept_after}
use Rattle.hd_edit.specs.Log.{first_map, earlier_maps, IsLog, IsLogIn}
use Rattle.hd_edit.proofs.Entries.{before_entry-kind, before_entry-under}

-- one map for each entry
pub earlier_maps-length : (es : List Entry) (m : Map) → length (earlier_maps es m) ≡ length es
earlier_maps-length [] m = refl
earlier_maps-length (e ∷ es) m = ap suc (earlier_maps-length es m)

-- the first of maps with one more
first_push : (xs : List Map) (x m : Map) → first_map (xs ++ x ∷ []) m ≡ first_map xs x
first_push [] x m = refl
first_push (y ∷ xs) x m = refl

-- the last entry gives the last map, from which the others are told
pub earlier_maps-push : (es : List Entry) (e : Entry) (m : Map) → earlier_maps (es ++ e ∷ []) m ≡ earlier_maps es (before_entry e m) ++ before_entry e m ∷ []
earlier_maps-push [] e m = refl
earlier_maps-push (x ∷ es) e m = rw (earlier_maps-push es e m, first_push (earlier_maps es (before_entry e m)) (before_entry e m) m)

-- a setting of the present map is one of all
first_under : (adjacency : Adjacency) (xs : List Map) (m : Map) → first_map (map (under adjacency) xs) (under adjacency m) ≡ under adjacency (first_map xs m)
first_under adjacency [] m = refl
first_under adjacency (x ∷ xs) m = refl

pub earlier_maps-under : (adjacency : Adjacency) (es : List Entry) (m : Map) → earlier_maps es (under adjacency m) ≡ map (under adjacency) (earlier_maps es m)
earlier_maps-under adjacency [] m = refl
earlier_maps-under adjacency (e ∷ es) m = rw (earlier_maps-under adjacency es m, first_under adjacency (earlier_maps es m) m, before_entry-under adjacency e (first_map (earlier_maps es m) m)) refl

-- without the first entries the first maps are gone
earlier-drop : (k : ℕ) (es : List Entry) (m : Map) → earlier_maps (drop k es) m ≡ drop k (earlier_maps es m)
earlier-drop zero es m = refl
earlier-drop (suc k) [] m = refl
earlier-drop (suc k) (e ∷ es) m = earlier-drop k es m

-- an entry more, of which the last 32 are kept
pub earlier_maps-kept : (es es' : List Entry) (e : Entry) (capacity : ℕ) (m m' : Map) → es' ≡ keep_last capacity (es ++ e ∷ []) → capacity ≡ log_places → before_entry e m' ≡ m
    → earlier_maps es' m' ≡ kept_after (earlier_maps es m) m
earlier_maps-kept es es' e capacity m m' kept places before =
    let maps = earlier_maps es m ++ m ∷ [] in
    let told : earlier_maps (es ++ e ∷ []) m' ≡ maps = earlier_maps-push es e m' ∙ ap (λ (b : Map). earlier_maps es b ++ b ∷ []) before in
    let lengths : length (es ++ e ∷ []) ≡ length maps = length_push es e ∙ sym (length_push (earlier_maps es m) m ∙ ap (λ (n : ℕ). n + 1) (earlier_maps-length es m)) in
    ap (λ (xs : List Entry). earlier_maps xs m') (kept ∙ ap (λ (n : ℕ). keep_last n (es ++ e ∷ [])) places)
    ∙ earlier-drop (length (es ++ e ∷ []) - log_places) (es ++ e ∷ []) m'
    ∙ ap (λ (n : ℕ). drop (n - log_places) (earlier_maps (es ++ e ∷ []) m')) lengths
    ∙ ap (λ (xs : List Map). drop (length maps - log_places) xs) told

-- and it is a log of the map that the entry makes
pub IsLog-kept : (log log' : Buffer Entry) (e : Entry) (m m' : Map) → IsLog m log → log' ≡ buffer (keep_last log.capacity (log.items ++ e ∷ [])) log.capacity
    → IsEntry m' e → m'.size ≡ m.size → m'.data_type ≡ m.data_type → IsLog m' log'
IsLog-kept log log' e m m' is kept are size type =
    let all = log.items ++ e ∷ [] in
    let before : All (IsEntry m') log.items = rw (size, type) is.each in
    rw kept (record {
      places = is.places;
      few = omega (arith, is.places, length-drop (length all - log.capacity) all);
      each = All-drop (IsEntry m') (length all - log.capacity) all (All-push (IsEntry m') log.items e before are);
    })

-- a list and its last item
pub last_item-split : {X : Type 0} (xs : List X) (x : X) → Some x ≡ last_item xs → xs ≡ take (length xs - 1) xs ++ x ∷ []
last_item-split {X = X} xs x last =
    let within = slice_get_within xs (length xs - 1) x (sym last) in
    sym (take_all (length xs - 1 + 1) xs (omega arith)) ∙ take_more xs (length xs - 1) x within
    ∙ ap (λ (y : X). take (length xs - 1) xs ++ y ∷ []) (get_or_from_slice_get xs (length xs - 1) x x (sym last))

some_or_none : {X : Type 0} (x : X) → ◌≡◌ {A = Option X} (Some x) None → ⊥
some_or_none x e = cc

-- a list without a last item is empty
pub last_item-none : {X : Type 0} (xs : List X) → None ≡ last_item xs → xs ≡ []
last_item-none [] last = refl
last_item-none (x ∷ xs) last = let e = slice_get-get_or (x ∷ xs) (length (x ∷ xs) - 1) x (omega arith) in absurd (some_or_none (get_or (x ∷ xs) (length (x ∷ xs) - 1) x) (sym e ∙ sym last))

-- the last item is one of the items
pub last_item-holds : {X : Type 0} (P : X → Type 0) (xs : List X) (x : X) → Some x ≡ last_item xs → All P xs → P x
last_item-holds P xs x last are = subst P (get_or_from_slice_get xs (length xs - 1) x x (sym last)) (are (length xs - 1) x (slice_get_within xs (length xs - 1) x (sym last)))

-- without its last entry the log gives the maps before the one that the entry is undone to
pub earlier_maps-undone : (es es' : List Entry) (e : Entry) (m m' : Map) → Some e ≡ last_item es → es' ≡ take (length es - 1) es → m' ≡ before_entry e m
    → earlier_maps es m ≡ earlier_maps es' m' ++ m' ∷ []
earlier_maps-undone es es' e m m' last left is =
    ap (λ (xs : List Entry). earlier_maps xs m) (last_item-split es e last ∙ ap (λ (xs : List Entry). xs ++ e ∷ []) (sym left)) ∙ earlier_maps-push es' e m
    ∙ ap (λ (b : Map). earlier_maps es' b ++ b ∷ []) (sym is)

-- and it is a log of that map
pub IsLog-undone : (log log' : Buffer Entry) (e : Entry) (m m' : Map) → IsLog m log → log' ≡ buffer (take (length log.items - 1) log.items) log.capacity → m' ≡ before_entry e m → IsLog m' log'
IsLog-undone log log' e m m' is left before = rw (left, before) (before_entry-kind (λ size type. IsLogIn size type (buffer (take (length log.items - 1) log.items) log.capacity)) e m (record {
  places = is.places;
  few = omega (arith, is.few, length-take {A = Entry});
  each = All-take (IsEntry m) (length log.items - 1) log.items is.each;
}))

module _ {X : Type 0} where
  pub take_back-more : (all xs xs' : List X) (x x' : X) (n i : ℕ) → xs ++ x ∷ [] ≡ take (n + 1 - i) all → length xs + i ≡ n → xs ≡ xs' ++ x' ∷ [] → xs' ++ x' ∷ [] ≡ take (n + 1 - (i + 1)) all
  take_back-more all xs xs' x x' n i so len split =
      let e : n + 1 - (i + 1) ≡ length xs = omega (arith, len) in
      sym split ∙ sym (take_at xs (x ∷ []) (length xs) refl) ∙ ap (take (length xs)) so ∙ take-take (length xs) (n + 1 - i) all (omega (arith, len)) ∙ ap (λ (k : ℕ). take k all) (sym e)

  pub take_back-item : (xs ys : List X) (x y : X) (i : ℕ) → ys ++ y ∷ [] ≡ take (length xs + 1 - i) (xs ++ x ∷ []) → length ys + i ≡ length xs → y ≡ get_or (xs ++ x ∷ []) (length xs - i) x
  take_back-item xs ys x y i so len =
      let e : length xs - i ≡ length ys = omega (arith, len) in
      sym (get_or_at ys y [] x (length xs - i) (sym e)) ∙ ap (λ (zs : List X). get_or zs (length xs - i) x) so ∙ get_or-take (length xs + 1 - i) (xs ++ x ∷ []) (length xs - i) x (omega (arith, len))

  pub take_back-rest : (xs ys : List X) (x y : X) (i : ℕ) → ys ++ y ∷ [] ≡ take (length xs + 1 - i) (xs ++ x ∷ []) → length ys + i ≡ length xs → ys ≡ take (length xs - i) xs
  take_back-rest xs ys x y i so len =
      let e : length xs - i ≡ length ys = omega (arith, len) in
      sym (take_at ys (y ∷ []) (length xs - i) (sym e)) ∙ ap (take (length xs - i)) so ∙ take-take (length xs - i) (length xs + 1 - i) (xs ++ x ∷ []) (omega (arith, len))
      ∙ take-append-le (length xs - i) xs (x ∷ []) (omega (arith, len))
