use Rattle.hd_sdf_read.specs.Views.{extra_of}
use Rattle.hd_sdf_read.proofs.GoodEntries.{is_entry-kind}
use Rattle.hd_sdf_read.proofs.HeaderPieces.{header_in-ends, header_in-keyed, header_in-refused, header_in-skipped, header_in-unread}
use Rattle.hd_sdf_read.proofs.header.Header.take_line.Goals as goal

pub take_entry-requires-clause-form : goal.take_entry-requires-clause-form
take_entry-requires-clause-form c = is_entry-kind c.args.line.now (extra_of c.in-Keyed.entry) c.requires.one c.in-Keyed.ensures

pub returns-in-Skipped-clause-line : goal.returns-in-Skipped-clause-line
returns-in-Skipped-clause-line c = λ rest.
    let h = c.args.self.now in
    header_in-skipped h.version h.number h.entries c.args.line.now rest c.requires.one c.in-Skipped.ensures

pub returns-in-Ends-clause-line : goal.returns-in-Ends-clause-line
returns-in-Ends-clause-line c = λ rest.
    let h = c.args.self.now in
    header_in-ends h.version h.number h.entries c.args.line.now rest c.requires.one c.in-Ends.ensures

pub returns-in-Ok-clause-line : goal.returns-in-Ok-clause-line
returns-in-Ok-clause-line c = λ rest.
    let h = c.args.self.now in
    let e = c.in-Ok.ensures in
    rw (e.version, e.number, e.entries) (header_in-keyed h.version h.number h.entries c.args.line.now rest c.requires.one (extra_of c.in-Keyed.entry) c.in-Keyed.ensures e.none)

pub returns-in-Err-clause-line : goal.returns-in-Err-clause-line
returns-in-Err-clause-line c = λ refused rest.
    let h = c.args.self.now in
    header_in-refused h.version h.number h.entries c.args.line.now rest c.requires.one (extra_of c.in-Keyed.entry) c.in-Err.refusal c.in-Keyed.ensures (c.in-Err.ensures.0 refused)

pub returns-in-Unread-clause-line : goal.returns-in-Unread-clause-line
returns-in-Unread-clause-line c = λ refused rest.
    let h = c.args.self.now in
    header_in-unread h.version h.number h.entries c.args.line.now rest c.requires.one c.in-Unread.ensures
