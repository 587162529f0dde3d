-- What adding a part does to the joins.
use Rattle.std.proofs.Common.{◌≡◌, ◌-◌, ℕ, suc, Bool, true, false, List, [], ◌∷◌, ◌++◌, Some, cond, length, slice_get, refl, sym, ◌∙◌, ap, subst, arith}
use Rattle.std.proofs.lemmas.Option.{same_Some}
use Rattle.hd_map.specs.declared.types.Rank.{Rank}
use Rattle.hd_graph.specs.declared.parts.Part.{Part}
use Rattle.hd_graph.specs.declared.trees.Join.{Join}
use Rattle.hd_map.specs.ChangeTree.{Joining}
use Rattle.hd_graph.specs.Parts.{grown, join_of, opens_join, with_low, with_part}
use Rattle.hd_graph.specs.Tells.{joins_of}

pub joins_of-push : (xs : List Join) (x : Join) → joins_of (xs ++ x ∷ []) ≡ joins_of xs ++ record { saddle = x.saddle; parts = x.parts } ∷ []
joins_of-push [] x = refl
joins_of-push (y ∷ ys) x = ap (λ zs. record { saddle = y.saddle; parts = y.parts } ∷ zs) (joins_of-push ys x)

module _ (below : Rank → Rank → Bool) (e : Part) where
  with_part-last : (front : List Joining) (x : Joining) → with_part below e (front ++ x ∷ []) ≡ front ++ cond (below x.saddle e.saddle) (x ∷ join_of e ∷ []) (grown below x e ∷ [])
  with_part-last [] x = refl
  with_part-last (y ∷ []) x = refl
  with_part-last (y ∷ z ∷ zs) x = ap (λ ys. y ∷ ys) (with_part-last (z ∷ zs) x)

  pub with_part-grows : (front : List Joining) (x : Joining) → below x.saddle e.saddle ≡ false → with_part below e (front ++ x ∷ []) ≡ front ++ grown below x e ∷ []
  with_part-grows front x h = with_part-last front x ∙ rw h refl

  push_twice : {X : Type 0} (xs : List X) (x y : X) → xs ++ x ∷ y ∷ [] ≡ (xs ++ x ∷ []) ++ y ∷ []
  push_twice [] x y = refl
  push_twice (z ∷ zs) x y = ap (λ ys. z ∷ ys) (push_twice zs x y)

  pub with_part-adds : (front : List Joining) (x : Joining) → below x.saddle e.saddle ≡ true → with_part below e (front ++ x ∷ []) ≡ (front ++ x ∷ []) ++ join_of e ∷ []
  with_part-adds front x h = with_part-last front x ∙ rw h (push_twice front x (join_of e))

  pub part-grows : (old rest new : List Join) (last grew : Join) → old ≡ rest ++ last ∷ [] → new ≡ rest ++ grew ∷ [] → grew.saddle ≡ last.saddle → grew.parts ≡ with_low below e.low last.parts →
      below last.saddle e.saddle ≡ false → joins_of new ≡ with_part below e (joins_of old)
  part-grows old rest new last grew was is same grows h =
      ap joins_of is ∙ joins_of-push rest grew
      ∙ ap (λ s. joins_of rest ++ record { saddle = s; parts = grew.parts } ∷ []) same
      ∙ ap (λ ps. joins_of rest ++ record { saddle = last.saddle; parts = ps } ∷ []) grows
      ∙ sym (with_part-grows (joins_of rest) (record { saddle = last.saddle; parts = last.parts }) h)
      ∙ ap (λ js. with_part below e js) (sym (joins_of-push rest last)) ∙ ap (λ js. with_part below e (joins_of js)) (sym was)

  pub part-adds : (old rest back new : List Join) (last : Join) → old ≡ rest ++ last ∷ [] → back ≡ rest ++ last ∷ [] → joins_of new ≡ joins_of back ++ join_of e ∷ [] →
      below last.saddle e.saddle ≡ true → joins_of new ≡ with_part below e (joins_of old)
  part-adds old rest back new last was is adds h =
      adds ∙ ap (λ js. joins_of js ++ join_of e ∷ []) is ∙ ap (λ js. js ++ join_of e ∷ []) (joins_of-push rest last)
      ∙ sym (with_part-adds (joins_of rest) (record { saddle = last.saddle; parts = last.parts }) h)
      ∙ ap (λ js. with_part below e js) (sym (joins_of-push rest last)) ∙ ap (λ js. with_part below e (joins_of js)) (sym was)

module _ (below : Rank → Rank → Bool) (saddle : Rank) where
  pub opens_join-read : (joins : List Join) (last : Join) → slice_get joins (length joins - 1) ≡ Some last → opens_join below saddle (joins_of joins) ≡ below last.saddle saddle
  opens_join-read [] last at = absurd (let e = at in cc)
  opens_join-read (x ∷ []) last at = ap (λ (y : Join). below y.saddle saddle) (same_Some x last at)
  opens_join-read (x ∷ y ∷ ys) last at =
      let n : ℕ = length ys in
      let place : suc (suc n) - 1 ≡ suc (suc n - 1) = omega arith in
      opens_join-read (y ∷ ys) last (subst (λ k. slice_get (x ∷ y ∷ ys) k ≡ Some last) place at)

  -- two parts at a saddle that opens a join are a join of their own
  pub with_part-opens : (joins : List Joining) (left right : Rank) → below saddle saddle ≡ false → below left right ≡ true → opens_join below saddle joins ≡ true
      → with_part below (record { saddle = saddle; low = right }) (with_part below (record { saddle = saddle; low = left }) joins) ≡ joins ++ record { saddle = saddle; parts = left ∷ right ∷ [] } ∷ []
  with_part-opens [] left right none up opens = rw none (rw up refl)
  with_part-opens (x ∷ []) left right none up opens = rw opens (rw none (rw up refl))
  with_part-opens (x ∷ y ∷ []) left right none up opens = rw opens (rw none (rw up refl))
  with_part-opens (x ∷ y ∷ z ∷ zs) left right none up opens = ap (λ joins. x ∷ joins) (with_part-opens (y ∷ z ∷ zs) left right none up opens)
