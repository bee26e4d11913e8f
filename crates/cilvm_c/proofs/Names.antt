-- The names that the walks of the hosts' calls cite, re-exported by one module. Declares nothing.
pub use Rattle.std.proofs.Common.{◌<◌, ◌^◌, ℕ, List, [], ◌∷◌, ◌++◌, length, refl, w8, w32, w64}
pub use Rattle.std.proofs.raw_atomic.Walks.{proved}
pub use base.Fraction.{full_share}
pub use base.Logic.{id⊢}
pub use base.Fml.{Lft, Share, ftrue, flft}
pub use mir.Syntax.{named}
pub use mir.Val.{vptr}
pub use prog.Wp.{WpFn}
pub use contract.Monad.{fact}
pub use contract.Running.{tables}
pub use types.Kit.{‵, raw, ◌⊛◌, some, later, prop, ◌$◌, ◌∵◌, !, qed, done, move, keep, drop, use1, use2, split, join, fsplit, fjoin, feq_l, regoal, suffices, group}
pub use types.Part.{agg, sub, whole}
pub use types.Run.{enter, of_opd, addr, from, fld, hop, stop, no_more, and_then, returns}
pub use types.ByLocal.{alloc_all, pass_all, free_all, look_at, look_in_at, get, get_in, through, sets, lands_as}
pub use denote.Builtin.{u8, u32, u64, usize}
pub use denote.Exit.{yes}
pub use denote.Plain.{uint_vals, uint_Tells, uint_Makes, uint_Lawful}
pub use denote.RattleType.{owns}
pub use denote.RawPtr.{Ptr, RawPtr, block_ptr, in_a_block, rawptr_vals, rawptr_Tells}
pub use denote.Ref.{Bor, MutBor, MutRef, ShrRef, mut_vals, mut_Tells, shr_vals, shr_Tells}
pub use denote.Signature.{plain, shr_slice_of, shr_ref_to}
pub use denote.Slice.{ShrSlice, MutSlice, Room, shr_slice_vals, shr_slice_Tells, mut_slice_vals, mut_slice_Tells}
pub use denote.Steps.{nothing, owned}
pub use denote.Triple.Call.{calls_at}
pub use denote.Triple.Clauses.{lasts}
pub use denote.Triple.Entry.{on_entry}
pub use denote.Triple.Spec.{triple_of}
pub use denote.Triple.Table.{framed}
pub use denote.Triple.Walked.{Stays, walk_of, stay_dropped, gave_slice, gave_ref, Goes-dropped, Goes-gave_slice, Goes-gave_ref, ends_at}
pub use Rattle.cil_model.specs.declared.events.Event.TheVariants.{Step, Ack, Gc}
pub use Rattle.cilvm_c.specs.contracts.limits.HostLimits.{the_row as host_limits}
pub use Rattle.cilvm_c.specs.declared.limits.HostLimits.{HostLimits}
pub use Rattle.cilvm_c.specs.contracts.sessions.Session.{the_row as session}
pub use Rattle.cilvm_c.specs.Handles.{is_held}
pub use Rattle.cilvm_c.specs.InitialStates.{IsInitialBy}
pub use Rattle.cilvm_c.specs.Sessions.{AreUsed, SessionState, IsClosing, IsLiveCount, IsPrintedRead, IsReasonRead, IsStatus, IsWait}
pub use Rattle.cilvm_c.specs.Steps.{HasDoneOne, HasRunText, HasStepped}
pub use Rattle.cilvm_c.proofs.Loans.{lent, lends, comes_back}
