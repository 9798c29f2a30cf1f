-- `field::sixteen::fold` meets its contract: antt computes what the code works out at all numbers of seven bits.
use Prim.Native.Nat.{◌*◌, ◌/◌, ◌%◌, ◌^◌}
use lib.Bits.{bit_and, bit_xor}
use Rattle.field.specs.BitPolynomials.{bit_remainder}
use Rattle.field.proofs.Tests.{equal-at}
use Rattle.field.proofs.sixteen.fold.Goals as goal

pub returns : goal.returns
unfolding bit_remainder
returns c = equal-at 128 (λ z. bit_xor (bit_xor (bit_and z 15) (z / 2 ^ 4)) (z / 2 ^ 4 * 2 ^ 1 % 2 ^ 8)) bit_remainder tt c.requires
