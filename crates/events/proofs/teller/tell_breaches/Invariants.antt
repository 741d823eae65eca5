-- the rules so far that are broken were told
use Rattle.std.proofs.Common.{◌≡◌, ◌+◌, ◌≤◌, ◌++◌, map, take, vec_items, vec_len, vec_capacity}
use Rattle.bus.specs.Breaches.{broken_of}
use Rattle.events.specs.Events.{broke}
use Rattle.events.specs.Tellers.{thing}
use Rattle.events.proofs.teller.tell_breaches.Given as goal

abbrev pub invariant-loop-rule : goal.invariant-loop-rule
invariant-loop-rule l = record {
  told : map thing (vec_items l.events) ≡ map thing (vec_items l.initial.events) ++ map (broke l.cycle) (broken_of (take l.rule-index l.rule-items));
  len : vec_len l.events ≤ vec_len l.initial.events + l.rule-index;
  capacity : vec_capacity l.events ≡ vec_capacity l.initial.events;
}
