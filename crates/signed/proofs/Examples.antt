-- Computed facts that pin the reading, at both ends, and small numbers as group numbers.
use mathlib.Core.Path.{◌≡◌, refl}
use lib.IntN.{pos, negsuc}
use Rattle.group.specs.Modular.{modulus}
use Rattle.signed.specs.SignedReading.{embed, signed_in}

-- (p − 1) ÷ 2 reads as itself, and (p + 1) ÷ 2 as −(p − 1) ÷ 2
pub reads_largest : signed_in modulus 9223372034707292160 ≡ pos 9223372034707292160
unfolding signed_in
reads_largest = refl

pub reads_least : signed_in modulus 9223372034707292161 ≡ negsuc 9223372034707292159
unfolding signed_in
reads_least = refl

-- p − 5 reads as −5, p − 1 as −1, and p, which is no group number, as 0
pub reads_five : signed_in modulus 18446744069414584316 ≡ negsuc 4
unfolding signed_in
reads_five = refl

pub reads_one : signed_in modulus 18446744069414584320 ≡ negsuc 0
unfolding signed_in
reads_one = refl

pub reads_p : signed_in modulus 18446744069414584321 ≡ pos 0
unfolding signed_in
reads_p = refl

-- −32,768, −1, 0 and 32,767 as group numbers
pub embeds_least : embed modulus (negsuc 32767) ≡ 18446744069414551553
unfolding embed
embeds_least = refl

pub embeds_minus_one : embed modulus (negsuc 0) ≡ 18446744069414584320
unfolding embed
embeds_minus_one = refl

pub embeds_zero : embed modulus (pos 0) ≡ 0
unfolding embed
embeds_zero = refl

pub embeds_largest : embed modulus (pos 32767) ≡ 32767
unfolding embed
embeds_largest = refl
