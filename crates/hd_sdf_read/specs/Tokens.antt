-- The tokens of a text.
use Rattle.std.specs.Prelude.{◌==◌, ℕ, Bool, not, List, length, drop, bytes_eq, codes, ◌||◌}
use Rattle.std.specs.List.{before_first}
use Rattle.hd_num.specs.Lines.{without_start, is_blank, is_line_feed}

-- a blank or an LF, which parts tokens
abbrev pub is_gap : ℕ → Bool
is_gap byte = is_blank byte || is_line_feed byte

-- any byte but a space
abbrev pub is_not_space : ℕ → Bool
is_not_space byte = not (byte == 32)

-- the first token of a text: the first longest run of bytes that are neither blanks nor LFs, or nothing
unfoldable pub token_of : List ℕ → List ℕ
token_of text = before_first is_gap (without_start is_gap text)

-- the text after its first token
unfoldable pub after_token : List ℕ → List ℕ
after_token text = drop (length (token_of text)) (without_start is_gap text)

-- the token that ends the data
abbrev pub is_star : List ℕ → Bool
is_star token = bytes_eq token (codes "*")

-- no token is left
abbrev pub is_absent : List ℕ → Bool
is_absent token = length token == 0
