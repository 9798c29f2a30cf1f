-- The limits of the numbers that a caller gives, and what follows from them. Rules: section 5.
--   field_most          the largest field size, and so the most points
--   multiplicity_most   the greatest multiplicity m
--   height_most         the greatest height l
--   width_most          the greatest W = m n + (l - m)(k - 1): at m = 4, n = 31, l = 8, k = 30
--   curve_most          the bytes of the largest curve; rows_most  of the largest rows
--   messages_most       the bytes of the most messages, l k
--   working_room        the bytes of working room that the list job asks
--   updates_most        the most updates from a start
--   allowance_most      the largest allowance
use Rattle.std.specs.Prelude.{ℕ, suc, ◌-◌, ◌*◌}

abbrev pub field_most : ℕ
field_most = 31

abbrev pub multiplicity_most : ℕ
multiplicity_most = 4

abbrev pub height_most : ℕ
height_most = 8

abbrev pub width_most : ℕ
width_most = 240

abbrev pub curve_most : ℕ
curve_most = suc height_most * suc width_most

abbrev pub rows_most : ℕ
rows_most = suc height_most * curve_most

abbrev pub messages_most : ℕ
messages_most = height_most * (field_most - 1)

abbrev pub working_room : ℕ
working_room = 32768

abbrev pub updates_most : ℕ
updates_most = 3886

abbrev pub allowance_most : ℕ
allowance_most = 65535
