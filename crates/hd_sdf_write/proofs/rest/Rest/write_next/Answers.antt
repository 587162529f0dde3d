use Rattle.std.proofs.Common.{◌≡◌, ◌≤◌, ◌+◌, ◌-◌, ℕ, List, [], ◌++◌, length, take, drop, sym, ap, arith, ◌∙◌, append-nil, length-take, length-drop}
use Rattle.std.proofs.Math.Seq.{drop-append_seam}
use Rattle.std.proofs.lemmas.List.{drop-drop, drop_all, take-append-drop}
use borrow.Rule.Slice.PartMut.{put_mid, post_of}
use Rattle.hd_sdf_write.proofs.rest.Rest.write_next.Goals as goal

-- what is put at the end of a list
end_put : (a k : ℕ) (xs ys : List ℕ) → a ≤ length xs → length xs ≤ a + k → drop a (put_mid a k xs ys) ≡ ys
end_put a k xs ys inside all =
    let front : a ≡ length (take a xs) = omega (arith, length-take a xs, inside) in
    let none : post_of a k xs ≡ [] = drop_all k (drop a xs) (omega (arith, length-drop a xs, all)) in
    ap (λ (t : List ℕ). drop a (take a xs ++ (ys ++ t))) none ∙ ap (λ (t : List ℕ). drop a (take a xs ++ t)) (append-nil ys)
    ∙ ap (λ (n : ℕ). drop n (take a xs ++ ys)) front ∙ drop-append_seam (take a xs) ys

-- a text from a place on is its next bytes, and the text behind these
next_bytes : (given count : ℕ) (text : List ℕ) → drop given text ≡ take (given + count - given) (drop given text) ++ drop (given + count) text
next_bytes given count text =
    let size : given + count - given ≡ count = omega arith in
    sym (take-append-drop (given + count - given) (drop given text)) ∙ ap (λ (t : List ℕ). take (given + count - given) (drop given text) ++ t)
    (ap (λ n. drop n (drop given text)) size ∙ drop-drop count given text)

pub returns-clause-text : goal.returns-clause-text
returns-clause-text c =
    let room = c.args.text.now in
    let given = c.self.inside.given in
    let count = c.min-count.result in
    let start : ℕ = length room - count in
    let put = end_put start (length room - start) room c.copy_from_slice.new.self (omega arith) (omega arith) in
    let copied = c.copy_from_slice.ensures.after ∙ ap (λ (t : List ℕ). take (given + count - given) (drop given t)) c.as_slice-whole.ensures in
    sym c.self.view_is ∙ next_bytes given count c.self.inside.text ∙ ap (λ (t : List ℕ). t ++ drop (given + count) c.self.inside.text) (sym (put ∙ copied))
