use Rattle.std.proofs.Common.{◌≡◌, ◌++◌, List, [], ℕ, sym, ap, ◌∙◌, append_assoc}
use Rattle.hd_sdf_read.specs.declared.file.Version.TheVariants.{Bcr}
use Rattle.hd_sdf_read.specs.declared.state.State.TheVariants.{Header, Version}
use Rattle.hd_sdf_read.specs.Grammar.{file_in}
use Rattle.hd_sdf_read.specs.States.{continued}
use Rattle.hd_sdf_read.proofs.States.{Feeds-from, IsFirstLine-piece}
use Rattle.hd_sdf_read.proofs.HeaderPieces.{file_in-long_version, is_line_feed-none_joined, file_in-no_version, file_in-version}
use Rattle.hd_sdf_read.proofs.state.feed_version.Goals as goal

pub returns-in-None-clause-text : goal.returns-in-None-clause-text
returns-in-None-clause-text c = λ refused more.
    let line = c.args.line in
    let text = c.args.text.now in
    ap file_in (sym (append_assoc line.text text more))
    ∙ file_in-long_version (line.text ++ text) more (is_line_feed-none_joined line.text text line.open c.in_default.ensures) (rw c.in-None.is at c.in_ok-line.ensures)

pub returns-in-Some-3-clause-text : goal.returns-in-Some-3-clause-text
returns-in-Some-3-clause-text c =
    let line = c.args.line in
    let end = c.in-Some.end.now in
    let rest = c.in-Some.rest.now in
    let h = c.new.ensures in
    let same : (more : List ℕ) → continued (Version line) (c.args.text.now ++ more) ≡ continued (Header c.new.result c.new-in-Some-3.result) (rest ++ more) = λ more.
    ap file_in (IsFirstLine-piece line.text c.args.text.now end rest more c.in-Some.ensures)
    ∙ rw (c.new-in-Some-3.ensures, h.version, h.number, h.entries) (file_in-version c.in-Some-3.version 2 [] (line.text ++ end) (rest ++ more)
    (is_line_feed-none_joined line.text end line.open c.in-Some.ensures.one) (sym c.in_ok-version.ensures ∙ c.in-Some-3.is)) in
    Feeds-from (Version line) (Header c.new.result c.new-in-Some-3.result) c.args.text.now rest c.feed_header.result same c.feed_header.ensures.text

pub returns-in-None-2-clause-text : goal.returns-in-None-2-clause-text
returns-in-None-2-clause-text c = λ refused more.
    let line = c.args.line in
    let end = c.in-Some.end.now in
    let rest = c.in-Some.rest.now in
    ap file_in (IsFirstLine-piece line.text c.args.text.now end rest more c.in-Some.ensures)
    ∙ file_in-no_version Bcr 2 [] (line.text ++ end) (rest ++ more) (is_line_feed-none_joined line.text end line.open c.in-Some.ensures.one) (sym c.in_ok-version.ensures ∙ c.in-None-2.is)
