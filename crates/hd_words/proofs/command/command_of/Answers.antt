use Rattle.std.proofs.Common.{◌≡◌, ◌∙◌, ◌∷◌, ap, map, string_bytes, sym}
use Rattle.std.specs.Option.{option_map}
use Rattle.hd_words.specs.Forms.{form_named}
use Rattle.hd_words.specs.Requests.{command_for}
use Rattle.hd_words.specs.WordSteps.{found_so_far}
use Rattle.hd_words.proofs.Forms.{form_of-formed, form_of-unformed}
use Rattle.hd_words.proofs.command.command_of.Goals as goal

pub returns-in_err-found : goal.returns-in_err-found
returns-in_err-found c =
    let name = string_bytes c.in_ok-name.name.now in
    let rest = map string_bytes c.in_ok-name.rest.now in
    let are : map string_bytes c.args.words.now ≡ name ∷ rest = ap (map string_bytes) c.in_ok-name.ensures.cases.0 in
    c.from_residual-in_err-found.ensures ∙ ap (option_map command_for) (sym (form_of-unformed _ name rest are c.in_err-found.ensures.none))

pub returns : goal.returns
returns c =
    let name = string_bytes c.in_ok-name.name.now in
    let rest = map string_bytes c.in_ok-name.rest.now in
    let found = found_so_far c.in_ok-found.found in
    let are : map string_bytes c.args.words.now ≡ name ∷ rest = ap (map string_bytes) c.in_ok-name.ensures.cases.0 in
    c.command_named.ensures ∙ ap (λ n. option_map command_for (form_named n found)) c.as_str.ensures.value
    ∙ ap (option_map command_for) (sym (form_of-formed _ name rest found are c.in_ok-found.ensures.some))
