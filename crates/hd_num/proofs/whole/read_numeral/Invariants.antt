use Rattle.std.proofs.Common.{◌≡◌, ◌-◌, ◌^◌, true, min, take}
use Rattle.std.specs.Char.{is_ascii_digit}
use Rattle.std.specs.List.{list_all}
use Rattle.std.specs.Str.Parse.{digits_value}
use Rattle.hd_num.proofs.whole.read_numeral.Given as goal

abbrev pub invariant-loop-byte : goal.invariant-loop-byte
invariant-loop-byte l = record {
  digits : list_all is_ascii_digit (take l.byte-index l.word) ≡ true;
  value : l.value ≡ min (digits_value 10 (take l.byte-index l.word)) (2 ^ 64 - 1);
}
