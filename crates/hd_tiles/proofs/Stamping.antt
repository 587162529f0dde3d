-- Tiles that are stamped one after the other.
use Rattle.std.proofs.Common.{ℕ, zero, suc, ◌≡◌, ◌<◌, ◌⊎◌, inl, inr, List, [], ◌∷◌, length, set, Some, slice_get, refl, sym, ◌∙◌, ap, ap₂, arith}
use Rattle.std.proofs.lemmas.Bool.{cases_eq}
use Rattle.std.proofs.lemmas.List.{get_or-set_same}
use Rattle.std.proofs.lemmas.Option.{slice_get_within, slice_get-get_or, same_Some}
use Rattle.std.proofs.Math.ListN.{length-set}
use Rattle.hd_tiles.specs.Stamps.{AreStamped}

module _ {X : Type 0} where
  -- what was set is read
  pub slice_get-set_same : (xs : List X) (i : ℕ) (v : X) → i < length xs → slice_get (set xs i v) i ≡ Some v
  slice_get-set_same xs i v below = slice_get-get_or (set xs i v) i v (rw (length-set xs i v) below) ∙ ap Some (get_or-set_same xs i v v below)

  -- at another place what was there is read
  pub slice_get-set_other : (xs : List X) (i k : ℕ) (v : X) → (k ≡ i → ⊥) → slice_get (set xs i v) k ≡ slice_get xs k
  slice_get-set_other [] i k v apart = refl
  slice_get-set_other (x ∷ xs) zero zero v apart = absurd (apart refl)
  slice_get-set_other (x ∷ xs) zero (suc k) v apart = refl
  slice_get-set_other (x ∷ xs) (suc i) zero v apart = refl
  slice_get-set_other (x ∷ xs) (suc i) (suc k) v apart = slice_get-set_other xs i k v (λ e. apart (ap suc e))

  -- lists of one length that are read alike are one
  same-reads : (xs ys : List X) → length xs ≡ length ys → ((k : ℕ) → slice_get xs k ≡ slice_get ys k) → xs ≡ ys
  same-reads [] [] long alike = refl
  same-reads [] (y ∷ ys) long alike = absurd (omega (arith, long))
  same-reads (x ∷ xs) [] long alike = absurd (omega (arith, long))
  same-reads (x ∷ xs) (y ∷ ys) long alike = ap₂ (λ v vs. v ∷ vs) (same_Some x y (alike 0)) (same-reads xs ys (omega (arith, long)) (λ k. alike (suc k)))

module _ (stamp : ℕ) where
  -- none is stamped yet
  pub AreStamped-none : (xs : List ℕ) → AreStamped (λ tile. ⊥) stamp xs xs
  AreStamped-none xs = record {
    whole = refl;
    touched = λ tile now no read. absurd no;
    either = λ tile. inr refl;
    others = λ tile no. refl;
  }

  module _ (Done : ℕ → Type 0) (xs ys : List ℕ) (so : AreStamped Done stamp xs ys) where
    -- one more is stamped
    pub AreStamped-more : (i : ℕ) → i < length xs → AreStamped (λ tile. Done tile ⊎ (tile ≡ i)) stamp xs (set ys i stamp)
    AreStamped-more i below =
        let inside : i < length ys = rw so.whole below in
        record {
          whole = length-set ys i stamp ∙ so.whole;
          touched = λ tile now done read. elim (cases_eq tile i) [
            | inl here ↦ (let new : slice_get (set ys i stamp) tile ≡ Some stamp = ap (slice_get (set ys i stamp)) here ∙ slice_get-set_same ys i stamp inside in same_Some now stamp (sym read ∙ new))
            | inr away ↦ elim done [
              | inl before ↦ so.touched tile now before (sym (slice_get-set_other ys i tile stamp away) ∙ read)
              | inr here ↦ absurd (away here)
            ]
          ];
          either = λ tile. elim (cases_eq tile i) [
            | inl here ↦ inl (ap (slice_get (set ys i stamp)) here ∙ slice_get-set_same ys i stamp inside)
            | inr away ↦ elim (so.either tile) [
              | inl new ↦ inl (slice_get-set_other ys i tile stamp away ∙ new)
              | inr old ↦ inr (slice_get-set_other ys i tile stamp away ∙ old)
            ]
          ];
          others = λ tile not. slice_get-set_other ys i tile stamp (λ e. not (inr e)) ∙ so.others tile (λ done. not (inl done));
        }

    -- the same tiles, told in another way
    pub AreStamped-as : (Touched : ℕ → Type 0) → ((tile : ℕ) → tile < length ys → Touched tile → Done tile) → ((tile : ℕ) → Done tile → Touched tile) → AreStamped Touched stamp xs ys
    AreStamped-as Touched to from = record {
      whole = so.whole;
      touched = λ tile now here read. so.touched tile now (to tile (slice_get_within ys tile now read) here) read;
      either = so.either;
      others = λ tile not. so.others tile (λ done. not (from tile done));
    }

  -- where no tile is to be stamped, none is
  pub AreStamped-nowhere : (Touched : ℕ → Type 0) (xs ys : List ℕ) → AreStamped Touched stamp xs ys → ((tile : ℕ) → Touched tile → ⊥) → ys ≡ xs
  AreStamped-nowhere Touched xs ys so none = same-reads ys xs so.whole (λ tile. so.others tile (none tile))

  -- stamped twice, tiles of either kind are
  pub AreStamped-onward : (First Second : ℕ → Type 0) (xs ys zs : List ℕ) → AreStamped First stamp xs ys → AreStamped Second stamp ys zs → AreStamped (λ tile. First tile ⊎ Second tile) stamp xs zs
  AreStamped-onward First Second xs ys zs one other = record {
    whole = other.whole ∙ one.whole;
    touched = λ tile now either read. elim (other.either tile) [
      | inl new ↦ same_Some now stamp (sym read ∙ new)
      | inr old ↦ elim either [
        | inl first ↦ one.touched tile now first (sym old ∙ read)
        | inr second ↦ other.touched tile now second read
      ]
    ];
    either = λ tile. elim (other.either tile) [
      | inl new ↦ inl new
      | inr old ↦ elim (one.either tile) [
        | inl new ↦ inl (old ∙ new)
        | inr before ↦ inr (old ∙ before)
      ]
    ];
    others = λ tile not. other.others tile (λ second. not (inr second)) ∙ one.others tile (λ first. not (inl first));
  }
