-- Each example by computation.
use Rattle.std.proofs.Common.{refl}
use Rattle.bus.specs.Bus.{step}
use Rattle.driver.specs.Refusals.{refusal}
use Rattle.events.specs.Events.{tells, follow}
use Rattle.examples.specs.Worked.{Worked}

pub worked : Worked
unfolding refusal step tells follow
worked = record {
  erase_one = λ n rs. refl;
  erase_two = λ n rs. refl;
  erase_told = refl;
  last_row = refl;
  no_block = λ k ks room. refl;
  program_puts = λ n rs. refl;
  program_told = refl;
  room_eight = λ ks. refl;
  room_seven = λ ks. refl;
  last_column = λ ks. refl;
  past_column = λ ks. refl;
  no_column = λ ks. refl;
  four_programs = λ ks. refl;
  fifth_program = λ ks. refl;
  lower_page = λ ks. refl;
  higher_page = λ ks. refl;
  marked = λ ks. refl;
  marked_refused = λ ks. refl;
  settle_done = λ ks. refl;
  settle_failed = λ ks. refl;
  settle_protected = λ ks. refl;
  settle_both = λ ks. refl;
  settle_again = λ ks. refl;
}
