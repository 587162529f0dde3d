-- What a parse holds of the names and the values of options, by the arguments' ids.
use Rattle.std.proofs.Common.{◌≡◌, ◌∙◌, ◌≤◌, ℕ, Bool, true, false, zero, suc, refl, sym, ap, subst, arith, List, [], ◌∷◌, ◌++◌, length, Option, Some, None, codes}
use Rattle.std.specs.Prelude.{slice_get}
use Rattle.std.specs.Option.{option_map}
use Rattle.std.specs.Str.{bytes_eq}
use Rattle.std.proofs.lemmas.Slice.Eq.{bytes_eq-Decides}
use Rattle.std.proofs.lemmas.Option.{slice_get_past}
use Rattle.clap.specs.Facts.{parser_of_value}
use Rattle.clap.specs.Values.{reading_of}
use Rattle.clap.specs.Simple.{new_rule}
use Rattle.clap.specs.Walk.{Row, Rule, Text}
use Rattle.clap.specs.declared.builder.action.ArgAction.TheVariants.{Set}
use Rattle.clap.specs.declared.builder.value_parser.ValueParser.TheVariants as vp
use Rattle.clap.specs.declared.parser.matches.ValueSource.TheVariants.{CommandLine}
use Rattle.hd_words.specs.GivenWords.{Given}
use Rattle.hd_words.proofs.ParsedRows.{row_at, row_at-last, row_at-before}

-- an argument that takes one text, as a parse reads it
abbrev pub taken : Text → Option Text → Option ℕ → Rule
taken id long index = record (new_rule id) {
  long = long;
  index = index;
  action = Some Set;
  range = Some (record { start_inclusive = 1; end_inclusive = 1 });
  parser = Some vp.String;
}

-- the row of an argument that was given a text
abbrev pub said : Text → Text → Row
said id text = record {
  id = id;
  values = text ∷ [];
  count = None;
  source = Some CommandLine;
  reading = reading_of (parser_of_value (Some vp.String));
}

-- a name, by its place, or an option
pub data Key : Type 0 where
  Name : ℕ → Key
  Tile : Key
  Save : Key

-- the id of an argument, where the names have these ids
abbrev pub id_of : List Text → Key → Option Text
id_of ids (Name i) = slice_get ids i
id_of ids Tile = Some (codes "tile")
id_of ids Save = Some (codes "save")

-- what is given for an argument
abbrev pub value_at : Key → Given → Option Text
value_at (Name i) g = slice_get g.names i
value_at Tile g = slice_get g.tiles 0
value_at Save g = slice_get g.saves 0

-- different arguments have different ids
abbrev pub AreDifferent : List Text → Type 0
AreDifferent ids = (j k : Key) (x y : Text) → id_of ids j ≡ Some x → id_of ids k ≡ Some y → bytes_eq x y ≡ true → j ≡ k

-- each argument has the row of what is given for it
abbrev pub HasRows : List Text → List Row → Given → Type 0
HasRows ids rows g = (k : Key) (id : Text) → id_of ids k ≡ Some id → row_at id rows ≡ option_map (said id) (value_at k g)

-- one more is given, for this argument
pub record Adds (k : Key) (text : Text) (g next : Given) : Type 0 where
  pub before : value_at k g ≡ None
  pub after : value_at k next ≡ Some text
  pub others : (j : Key) → (j ≡ k → ⊥) → value_at j next ≡ value_at j g

module _ (ids : List Text) (differ : AreDifferent ids) where
  -- an argument that is used for the first time gets its row
  pub HasRows-added : (rows : List Row) (g next : Given) (k : Key) (id text : Text) → id_of ids k ≡ Some id → Adds k text g next → HasRows ids rows g → HasRows ids (rows ++ (said id text ∷ [])) next
  HasRows-added rows g next k id text is adds holds j other at = go (bytes_eq id other) refl
    where
      go : (b : Bool) → bytes_eq id other ≡ b → row_at other (rows ++ (said id text ∷ [])) ≡ option_map (said other) (value_at j next)
      go true same =
          let key : k ≡ j = differ k j id other is at same in
          let text_is : id ≡ other = (bytes_eq-Decides id other).0 same in
          let none : row_at other rows ≡ None = subst (λ (x : Text). row_at x rows ≡ None) text_is (holds k id is ∙ ap (option_map (said id)) adds.before) in
          row_at-last other rows (said id text) none same
          ∙ ap (λ (x : Text). Some (said x text)) text_is
          ∙ sym (ap (option_map (said other)) (ap (λ (x : Key). value_at x next) (sym key) ∙ adds.after))
      go false not_same =
          let apart : j ≡ k → ⊥ = λ e.
          let ids_are : Some id ≡ Some other = sym is ∙ ap (id_of ids) (sym e) ∙ at in
          let id_is : id ≡ other = cc in
          let same = (bytes_eq-Decides id other).1 id_is in
          cc in
          row_at-before other rows (said id text) not_same ∙ holds j other at ∙ sym (ap (option_map (said other)) (adds.others j apart))

-- ---- what one more name, or one more value, adds

get_last : {X : Type 0} (xs : List X) (x : X) → slice_get (xs ++ (x ∷ [])) (length xs) ≡ Some x
get_last [] x = refl
get_last (y ∷ xs) x = get_last xs x

get_other : {X : Type 0} (xs : List X) (x : X) (i : ℕ) → (i ≡ length xs → ⊥) → slice_get (xs ++ (x ∷ [])) i ≡ slice_get xs i
get_other [] x zero apart = absurd (apart refl)
get_other [] x (suc i) apart = refl
get_other (y ∷ xs) x zero apart = refl
get_other (y ∷ xs) x (suc i) apart = get_other xs x i (λ e. apart (ap suc e))

pub Adds-name : (g : Given) (text : Text) → Adds (Name (length g.names)) text g (record { names = g.names ++ (text ∷ []); tiles = g.tiles; saves = g.saves })
Adds-name g text = record {
  before = slice_get_past g.names (length g.names) (omega arith);
  after = get_last g.names text;
  others = others;
}
  where
    others : (j : Key) → (j ≡ Name (length g.names) → ⊥) → value_at j (record { names = g.names ++ (text ∷ []); tiles = g.tiles; saves = g.saves }) ≡ value_at j g
    others (Name i) apart = get_other g.names text i (λ e. apart (ap Name e))
    others Tile apart = refl
    others Save apart = refl

pub Adds-tile : (names tiles saves : List Text) (text : Text) → length tiles ≤ 0 → Adds Tile text (record { names = names; tiles = tiles; saves = saves })
    (record { names = names; tiles = tiles ++ (text ∷ []); saves = saves })
Adds-tile names (tile ∷ tiles) saves text none = absurd (omega arith)
Adds-tile names [] saves text none = record { before = refl; after = refl; others = others }
  where
    others : (j : Key) → (j ≡ Tile → ⊥) → value_at j (record { names = names; tiles = text ∷ []; saves = saves }) ≡ value_at j (record { names = names; tiles = []; saves = saves })
    others (Name i) apart = refl
    others Tile apart = absurd (apart refl)
    others Save apart = refl

pub Adds-save : (names tiles saves : List Text) (text : Text) → length saves ≤ 0 → Adds Save text (record { names = names; tiles = tiles; saves = saves })
    (record { names = names; tiles = tiles; saves = saves ++ (text ∷ []) })
Adds-save names tiles (save ∷ saves) text none = absurd (omega arith)
Adds-save names tiles [] text none = record { before = refl; after = refl; others = others }
  where
    others : (j : Key) → (j ≡ Save → ⊥) → value_at j (record { names = names; tiles = tiles; saves = text ∷ [] }) ≡ value_at j (record { names = names; tiles = tiles; saves = [] })
    others (Name i) apart = refl
    others Tile apart = refl
    others Save apart = absurd (apart refl)
