-- What follows a part of a body in a walk.
use seplogic.Ra.Ura.{Ura}
use mir.Syntax.{Body}
use prog.Wp.{Env, Calls, Loops, Wp, after_seq}
use types.Kit.{Post, any_q, post}
use types.Logic.{Logic}

-- what runs after the first statement of a sequence
abbrev pub then_runs : {M : Type 1} {𝓤 : Ura M} (𝓛 : Logic 𝓤) → Calls 𝓤 𝓛.H → Loops 𝓤 𝓛.H → Env 𝓤 𝓛.H → Body → Post 𝓤 𝓛.H → Post 𝓤 𝓛.H
then_runs {𝓤 = 𝓤} 𝓛 C Λ E b q = any_q (after_seq 𝓤 𝓛.H (Wp 𝓤 𝓛.H C Λ E b (post 𝓤 𝓛.H q)) (post 𝓤 𝓛.H q))
