-- Draws worked outside: the first two of start number 1, and the first of a number whose sum passes 2 to the 64th.
-- Assumes nothing.
use Rattle.std.proofs.Common.{◌≡◌, refl}
use Rattle.generator.specs.Draws.{xorshift, step, draw_of, state_after, draw_at, seeded}

pub first_of_1 : draw_at (seeded 1) 0 ≡ 1082632198
unfolding draw_at draw_of state_after step xorshift
first_of_1 = refl

pub second_of_1 : draw_at (seeded 1) 1 ≡ 1152992998834578379
unfolding draw_at draw_of state_after step xorshift
second_of_1 = refl

pub past_the_end : draw_at (seeded 7650297886450228676) 0 ≡ 362436
unfolding draw_at draw_of state_after step xorshift
past_the_end = refl
