use Rattle.std.proofs.Common.{List, ◌++◌, map, vec_items, ap, ◌∙◌}
use Rattle.bus.specs.Breaches.{named}
use Rattle.events.specs.Events.{broke, happened, hand_after, Thing}
use Rattle.events.specs.Tellers.{thing, stands}
use Rattle.events.proofs.Tells.{followed, told_then}
use Rattle.events.proofs.teller.Teller.tell_one.Goals as goal

pub returns : goal.returns
returns c =
    let before : List Thing = map thing (vec_items c.args.events.now) in
    let between : List Thing = map thing (vec_items c.tell_breaches.new.events) in
    record {
      stands = followed (stands c.args.self.now) c.args.cycle _ _ _ c.read-told.ensures.holds
          (c.tell_act-event.ensures.hand
          ∙ (ap (λ h. hand_after c.read-told.result.act h) c.reserve-2.ensures.items
          ∙ ap (λ d. hand_after d.act (vec_items c.args.self.now.hand)) c.read-told.ensures.tells))
          c.saturating_add-self.ensures;
      tells = told_then (stands c.args.self.now) c.args.cycle before between (map thing (vec_items c.tell_event.new.events))
          c.read-told.result (vec_items c.reserve-2.new.self) c.read-told.ensures.tells c.reserve-2.ensures.items
          (c.tell_breaches.ensures.told
          ∙ (ap (λ xs. map thing xs ++ map (broke c.saturating_add-self.result) (named c.read-told.result.breaches)) c.reserve.ensures.items
          ∙ ap (λ n. before ++ map (broke n) (named c.read-told.result.breaches)) c.saturating_add-self.ensures))
          (c.tell_event.ensures ∙ ap (λ l. between ++ l) (c.tell_act-event.ensures.told ∙ ap (λ n. happened n c.read-told.result.act (vec_items c.reserve-2.new.self)) c.saturating_add-self.ensures));
    }
