-- What a text can still become whose front is read.
use Rattle.std.specs.Prelude.{◌≡◌, ◌++◌, ℕ, List, Option, Some, None, Result, Ok, Err}
use Rattle.hd_sdf_read.specs.declared.error.SdfError.{SdfError}
use Rattle.hd_sdf_read.specs.declared.error.SdfError.TheVariants.{Memory}
use Rattle.hd_sdf_read.specs.declared.body.Body.{Body}
use Rattle.hd_sdf_read.specs.declared.header.Header as declared
use Rattle.hd_sdf_read.specs.declared.heading.Heading.{Heading}
use Rattle.hd_sdf_read.specs.declared.state.State.{State}
use Rattle.hd_sdf_read.specs.declared.state.State.TheVariants as states
use Rattle.hd_sdf_read.specs.Bodies.{Surveyed}
use Rattle.hd_sdf_read.specs.BodyOn.{body_on}
use Rattle.hd_sdf_read.specs.File.{File}
use Rattle.hd_sdf_read.specs.Grammar.{body_in, file_in, file_with}
use Rattle.hd_sdf_read.specs.Views.{required_keys_view}
use Rattle.hd_sdf_read.specs.Reads.{◌>>=◌}
use Rattle.hd_sdf_read.specs.HeaderPieces.{header_on}

-- the file of a header, where this map and this trailer follow it
abbrev pub filed : Heading → Surveyed → Result File SdfError
filed heading s = Ok (file_with heading.header.version heading.header.entries (required_keys_view heading.frame) s.map s.trailer)

-- the header has ended: what follows it is what this leads to, or this is the offence whatever follows
abbrev pub Begins : declared.Header → Result (Heading × Body) SdfError → Type 0
Begins header (Ok (heading, body)) = (more : List ℕ) → body_in header.version header.entries more ≡ (body_on body more >>= filed heading)
Begins header (Err e) = (e ≡ Memory → ⊥) → (more : List ℕ) → body_in header.version header.entries more ≡ Err e

-- the file, or the first offence, of the bytes that a reader has come to and more behind them
abbrev pub continued : State → List ℕ → Result File SdfError
continued (states.Version line) more = file_in (line.text ++ more)
continued (states.Header header line) more = header_on header (line.text ++ more)
continued (states.Body heading body) more = body_on body more >>= filed heading
continued (states.Refused e) more = Err e

-- the number of the line that is read
abbrev pub number_of : State → ℕ
number_of (states.Version line) = 1
number_of (states.Header header line) = header.number
number_of (states.Body heading body) = 0
number_of (states.Refused e) = 0

-- a piece is read on: what can still become stays, or this is the offence of each continuation
abbrev pub Feeds : State → List ℕ → Result State SdfError → Type 0
Feeds old piece (Ok new) = (more : List ℕ) → continued old (piece ++ more) ≡ continued new more
Feeds old piece (Err e) = (e ≡ Memory → ⊥) → (more : List ℕ) → continued old (piece ++ more) ≡ Err e

-- the refusal of a state
abbrev pub refusal_in : State → Option SdfError
refusal_in (states.Version line) = None
refusal_in (states.Header header line) = None
refusal_in (states.Body heading body) = None
refusal_in (states.Refused e) = Some e

-- after a refusal the same one comes
abbrev pub StaysRefused : {X : Type 0} → Option SdfError → Result X SdfError → Type 0
StaysRefused before result = (e : SdfError) → before ≡ Some e → result ≡ Err e

-- a piece is read on behind the end of the header
abbrev pub FeedsBehind : declared.Header → List ℕ → Result State SdfError → Type 0
FeedsBehind header piece (Ok new) = (more : List ℕ) → body_in header.version header.entries (piece ++ more) ≡ continued new more
FeedsBehind header piece (Err e) = (e ≡ Memory → ⊥) → (more : List ℕ) → body_in header.version header.entries (piece ++ more) ≡ Err e
