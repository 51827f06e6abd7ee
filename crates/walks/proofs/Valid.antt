-- A sound plant is what this theory asks for. Assumes nothing.
use Rattle.limits.specs.Sound.{Sound}
use Rattle.plant.specs.declared.Plant.{Plant}
use Rattle.walks.specs.Arcs.{Valid}
use Rattle.walks.proofs.Live.{live_below}

pub sound_valid : (p : Plant) → Sound p → Valid p
sound_valid p ok = record {
  first_in_is = λ l t. ok.first_in_is l (live_below p l t);
  second_in = λ l t. ok.second_in l (live_below p l t);
  apart = λ l t. ok.apart l (live_below p l t);
}
