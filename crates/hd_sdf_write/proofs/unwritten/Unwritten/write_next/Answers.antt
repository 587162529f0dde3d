use Rattle.std.proofs.Common.{◌≡◌, ◌≤◌, ◌+◌, ◌*◌, ℕ, List, [], ◌++◌, length, drop, sym, ap, ap₂, arith, ◌∙◌, append_assoc}
use Rattle.std.proofs.lemmas.List.{nil_from_length}
use Rattle.hd_map.specs.Map.{Map, cell_count}
use Rattle.hd_sdf_write.specs.Data.{data_from}
use Rattle.hd_sdf_write.proofs.Data.{data_from-none, data_from-parts}
use Rattle.hd_sdf_write.proofs.unwritten.Unwritten.write_next.Goals as goal

-- a list with no item
empty_is : (xs : List ℕ) → length xs ≤ 0 → xs ≡ []
empty_is xs none = nil_from_length xs (omega (arith, none))

pub returns-then-left-gt0-clause-text : goal.returns-then-left-gt0-clause-text
returns-then-left-gt0-clause-text g c =
    let u = c.self.inside in
    let m = g.G.Heights.map u.grid.now in
    let next : ℕ = u.datum + c.min.result in
    let count : c.size-size.result.profiles * c.size-size.result.points ≡ cell_count m.size = ap cell_count c.size-size.ensures in
    let header = empty_is u.header (omega (arith, c.if-len-gt0.false, c.len.ensures)) in
    let parts = data_from-parts m u.datum next (omega arith) (omega (arith, count, c.min.ensures, c.self.invariant)) in
    sym c.self.view_is ∙ ap (λ (t : List ℕ). t ++ data_from m u.datum ++ u.end) header
    ∙ ap (λ (t : List ℕ). t ++ u.end) (parts ∙ ap (λ (t : List ℕ). t ++ data_from m next) (sym c.write_data.ensures.text))
    ∙ append_assoc (drop c.write_data.result c.write_data.new.text) (data_from m next) u.end
    ∙ ap (λ (t : List ℕ). drop c.write_data.result c.write_data.new.text ++ (t ++ data_from m next ++ u.end)) (sym header)

all_given : (m : Map) (header end : List ℕ) (datum : ℕ) → header ≡ [] → datum ≡ cell_count m.size → header ++ data_from m datum ++ end ≡ end
all_given m header end datum none all = ap₂ (λ (a b : List ℕ). a ++ b ++ end) none (ap (data_from m) all ∙ data_from-none m)

pub returns-clause-text : goal.returns-clause-text
returns-clause-text g c =
    let u = c.self.inside in
    let m = g.G.Heights.map u.grid.now in
    let count : c.size-size.result.profiles * c.size-size.result.points ≡ cell_count m.size = ap cell_count c.size-size.ensures in
    let header = empty_is u.header (omega (arith, c.if-len-gt0.false, c.len.ensures)) in
    let all : u.datum ≡ cell_count m.size = omega (arith, count, c.if-left-gt0.false, c.self.invariant) in
    sym c.self.view_is ∙ all_given m u.header u.end u.datum header all ∙ c.write_next-2.ensures.text
    ∙ ap (λ (t : List ℕ). drop c.write_next-2.result c.write_next-2.new.text ++ t) (sym (all_given m u.header c.write_next-2.new.self u.datum header all))

pub returns-clause-some : goal.returns-clause-some
returns-clause-some g c = λ some.
    let u = c.self.inside in
    let m = g.G.Heights.map u.grid.now in
    let count : c.size-size.result.profiles * c.size-size.result.points ≡ cell_count m.size = ap cell_count c.size-size.ensures in
    let header = empty_is u.header (omega (arith, c.if-len-gt0.false, c.len.ensures)) in
    let all : u.datum ≡ cell_count m.size = omega (arith, count, c.if-left-gt0.false, c.self.invariant) in
    let rest = ap length (sym c.self.view_is ∙ all_given m u.header u.end u.datum header all) in
    c.write_next-2.ensures.some (omega (arith, c.requires, c.write_next-2.auto.text)) (omega (arith, rest, some))
