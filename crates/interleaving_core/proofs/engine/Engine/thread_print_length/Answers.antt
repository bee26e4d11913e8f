use Rattle.std.proofs.Common.{◌≡◌, [], length, sym, ap, ◌∙◌, Some, slice_get}
use Rattle.std.specs.Option.{option_map_or}
use Rattle.threads_monitors.specs.declared.threads.Thread.{Thread}
use Rattle.simulation.specs.Transitions.{live_thread}
use Rattle.interleaving_core.specs.Prints.{status_print}
use Rattle.interleaving_core.proofs.Threads.HalfSteps.{thread_is}
use Rattle.interleaving_core.proofs.engine.Engine.thread_print_length.Goals as goal

pub print_length_in-requires : goal.print_length_in-requires
print_length_in-requires c =
    let thread : Thread = c.in-Some.thread.now in
    let there : slice_get c.args.self.now.threads.items c.args.number ≡ Some thread = sym c.in-Some.ensures in
    let live : slice_get c.args.self.now.threads.items c.args.number ≡ Some (live_thread thread.steps_left c.in-Live.frames) = there ∙ ap Some (thread_is thread c.in-Live.frames c.in-Live.is) in
    (c.requires.ready.ready c.args.number thread.steps_left c.in-Live.frames live).pc

pub returns-in-Live : goal.returns-in-Live
returns-in-Live c =
    let thread : Thread = c.in-Some.thread.now in
    let there : slice_get c.args.self.now.threads.items c.args.number ≡ Some thread = sym c.in-Some.ensures in
    let own = λ (x : Thread). status_print c.args.self.now.program x.thread_status in
    c.print_length_in.ensures ∙ sym (ap (λ o. length (option_map_or own o [])) there ∙ ap (λ s. length (status_print c.args.self.now.program s)) c.in-Live.is)

pub returns-in-Ended : goal.returns-in-Ended
returns-in-Ended c =
    let thread : Thread = c.in-Some.thread.now in
    let there : slice_get c.args.self.now.threads.items c.args.number ≡ Some thread = sym c.in-Some.ensures in
    let own = λ (x : Thread). status_print c.args.self.now.program x.thread_status in
    sym (ap (λ o. length (option_map_or own o [])) there ∙ ap (λ s. length (status_print c.args.self.now.program s)) c.in-Ended.is)
