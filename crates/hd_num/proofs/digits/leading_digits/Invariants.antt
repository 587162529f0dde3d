use Rattle.std.proofs.Common.{◌≡◌, ◌≤◌, true, take}
use Rattle.std.specs.Char.{is_ascii_digit}
use Rattle.std.specs.List.{list_all}
use Rattle.std.specs.Str.Parse.{digits_value}
use Rattle.hd_num.proofs.digits.leading_digits.Given as goal

abbrev pub invariant-digits : goal.invariant-digits
invariant-digits l = record {
  few : l.place ≤ 18;
  digits : list_all is_ascii_digit (take l.place l.text) ≡ true;
  value : l.number ≡ digits_value 10 (take l.place l.text);
}
