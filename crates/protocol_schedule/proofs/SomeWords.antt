-- Words of a few seeds, computed.
use Rattle.std.specs.Prelude.{◌≡◌, refl, [], ◌∷◌, map}
use Rattle.rand_pcg.specs.Lcg.{state_after}
use Rattle.protocol.specs.Words.{below}
use Rattle.protocol_schedule.specs.Draw.{word_of}

pub of_one : map (word_of 1) (below 8) ≡ 3795398737 ∷ 17903413 ∷ 3545275701 ∷ 194195274 ∷ 2326030198 ∷ 2354257974 ∷ 2697798104 ∷ 3102124240 ∷ []
unfolding state_after
of_one = refl

pub of_seven : map (word_of 7) (below 8) ≡ 4063834449 ∷ 2143014202 ∷ 2740157135 ∷ 3385478207 ∷ 3546536764 ∷ 785995372 ∷ 1850770085 ∷ 2179942517 ∷ []
unfolding state_after
of_seven = refl

pub of_greatest : map (word_of 18446744073709551615) (below 8) ≡ 0 ∷ 3837872008 ∷ 932996374 ∷ 1548399547 ∷ 1612522464 ∷ 473443212 ∷ 3522865942 ∷ 1734871597 ∷ []
unfolding state_after
of_greatest = refl
