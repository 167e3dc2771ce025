-- Results of queries on tables are facts of the timeline's registers.
use Rattle.std.proofs.Common.{◌≡◌, ◌∙◌, ap, refl, sym, Bool, true, false, List, ℕ, Result, Ok, Err, IfOk, arith, subst}
use Rattle.std.proofs.lemmas.Int.{ints}
use Rattle.std.specs.Int.{int_min}
use Rattle.std.specs.Prelude.{ℤ, if◌then◌else◌, int_le, int_lt}
use Rattle.land_core.specs.Laws.{SoundnessByNumber}
use Rattle.land_core.specs.Numbers.{IsMoment, last_moment}
use Rattle.land_core.specs.declared.act.Act.{Act}
use Rattle.land_core.specs.declared.ask.Ask.{Ask}
use Rattle.land_core.specs.declared.caller.Caller.{Caller}
use Rattle.land_core.specs.declared.kind.Kind.{Kind}
use Rattle.land_core.specs.declared.register.Register.{Register}
use Rattle.land_keep.proofs.Timelines.{last_is_moment, sound_or_nothing}
use Rattle.land_keep.specs.Keeping.{Closes}
use Rattle.land_keep.specs.Machine.{asked_moment, verdict_at}
use Rattle.land_keep.specs.Timeline.{last_register, last_stamp, register_at}
use Rattle.land_keep.specs.declared.store_fault.StoreFault.{StoreFault}
use Rattle.land_rules.specs.Denials.Standing.{mutation_of_act, mutation_of_ask}
use Rattle.land_rules.specs.Rules.{seen_of, verdict_of}
use Rattle.land_rules.specs.declared.verdict.Verdict.{Verdict}
use Rattle.land_select.proofs.KnownRoles.{reaches}
use Rattle.land_select.specs.Results.{IsResult}
use Rattle.land_select.specs.Slices.Gathered.{HoldsOfRegister, read_slice_of}
use Rattle.land_select.specs.Cache.{IsMutationValue, IsValueFor}
use Rattle.land_select.specs.KnownRoles.{HoldsRoleIf}
use Rattle.land_select.specs.Verdicts.{IsVerdictWith}
use Rattle.land_select.specs.Views.{AgreesIfGiven}
use Rattle.land_select.specs.declared.cache.CachedValue.{CachedValue}
use Rattle.land_select_queries.specs.Joins.Sight.{HoldsNoMandateIf, IsSightWith}
use Rattle.land_select_queries.specs.Lookups.Parts.{ReadsPart}
use Rattle.land_tables.proofs.LookedAt.{IsLookedAt, look_moment}
use Rattle.land_tables.proofs.One.{have_members}
use Rattle.land_tables.proofs.WrittenTimelines.{stays_last}
use Rattle.land_tables.specs.Standing.{decoded_timeline}
use Rattle.land_tables.specs.TablesState.{HoldsRegister}
use Rattle.land_tables_history.specs.History.{IsRegisterAt}
use Rattle.sqlite.specs.State.{State}

-- in a state, a request for time t that reads at u returns the register at t
abbrev pub IsReadAs : State → (t u : ℤ) → Type 0
IsReadAs s t u = (register : HoldsRegister s) → IsRegisterAt u register.holds.history (register_at (decoded_timeline s.now.trees) t)

-- if no change is later than the time, its register is that of the last moment
pub read_latest : (s : State) (t u : ℤ) (is_latest : Bool) → is_latest ≡ int_le (last_stamp (decoded_timeline s.now.trees)) t → u ≡ (if is_latest then last_moment else int_min t last_moment) → IsReadAs s t u
read_latest s t u true latest is register =
    let tl = decoded_timeline s.now.trees in
    let rising = register.sound.rising in
    let same : register_at tl t ≡ register_at tl last_moment = stays_last tl t rising (reaches (last_stamp tl) t (sym latest)) ∙ sym (stays_last tl last_moment rising (last_is_moment tl register.sound)) in
    subst (λ (x : ℤ). IsRegisterAt x register.holds.history (register_at tl t)) (sym is)
    (subst (λ (r : Register). IsRegisterAt last_moment register.holds.history r) (sym same) (look_moment last_moment last_moment refl s register))
read_latest s t u false latest is register = look_moment t u is s register

-- the numbers selected at a time are those that the policy lets the caller see in the register at that time;
-- and a caller that is found to hold no mandate holds none in it
pub sight_seen : (s : State) (caller : Caller) (holds_none : Bool) (kind : Kind) (t u : ℤ) → IsReadAs s t u → (it : List ℕ × Bool) → IsResult (IsSightWith caller holds_none kind u) s it
    → HoldsNoMandateIf holds_none (register_at (decoded_timeline s.now.trees) t) caller.party → (it.0 ≡ seen_of (register_at (decoded_timeline s.now.trees) t) caller kind) × HoldsNoMandateIf it.1 (register_at (decoded_timeline s.now.trees) t) caller.party
sight_seen s caller holds_none kind t u place it answer given =
    let tl = decoded_timeline s.now.trees in
    let holds = answer.register.holds in
    answer.answer holds.listed holds.history holds.holds (register_at tl t) (sound_or_nothing tl t answer.register.sound) (place answer.register) given

-- a part of the register that is read at a time is that of the register at that time
pub part_stands : SoundnessByNumber → {T : Type 0} (part : Register → T) (s : State) (t u : ℤ) → IsLookedAt t u → (r : Result T StoreFault) → IfOk r (IsResult (ReadsPart part u) s)
    → IfOk r (λ it. it ≡ part (register_at (decoded_timeline s.now.trees) t))
part_stands look_ups part s t u place (Ok it) answer =
    let tl = decoded_timeline s.now.trees in
    let holds = answer.register.holds in
    answer.answer holds.listed holds.history holds.holds (register_at tl t) (have_members look_ups tl t answer.register.sound) (place s answer.register)
part_stands look_ups part s t u place (Err fault) answer = tt

-- the same for a view, with a premise on the register at that time
pub given_stands : {T : Type 0} (Given : Register → Type 0) (shown : Register → T) (s : State) (t u : ℤ) → IsLookedAt t u → (it : T) → IsResult (AgreesIfGiven Given shown u) s it
    → Given (register_at (decoded_timeline s.now.trees) t) → it ≡ shown (register_at (decoded_timeline s.now.trees) t)
given_stands Given shown s t u place it answer given =
    let tl = decoded_timeline s.now.trees in
    let holds = answer.register.holds in
    answer.answer holds.listed holds.history holds.holds (register_at tl t) (sound_or_nothing tl t answer.register.sound) (place s answer.register) given

the_last : IsMoment last_moment
the_last = (omega (arith, ints), omega (arith, ints))

-- the verdict on the tables is that of the latest register and the register at the time, and the cached value
-- is correct for the object in the latter and for the mutation in the former
verdict_stands : SoundnessByNumber → (s : State) (caller : Caller) (is_held : Bool) (a : Ask) (past : Bool) (t u : ℤ) → IsLookedAt t u → (it : Verdict × CachedValue) → IsResult (IsVerdictWith caller is_held a past u) s it
    → HoldsRoleIf is_held (last_register (decoded_timeline s.now.trees)) caller → (it.0 ≡ verdict_of (last_register (decoded_timeline s.now.trees)) (register_at (decoded_timeline s.now.trees) t) caller a past) × IsValueFor (register_at (decoded_timeline s.now.trees) t) caller a it.1 × IsMutationValue (register_at (decoded_timeline s.now.trees) last_moment) caller (mutation_of_ask a) it.1
verdict_stands look_ups s caller is_held a past t u place it answer known =
    let tl = decoded_timeline s.now.trees in
    let sound = answer.register.sound in
    let holds = answer.register.holds in
    let last : register_at tl last_moment ≡ last_register tl = stays_last tl last_moment sound.rising (last_is_moment tl sound) in
    let told = answer.answer holds.listed holds.history holds.holds (register_at tl last_moment) (register_at tl t) (sound_or_nothing tl last_moment sound) (sound_or_nothing tl t sound)
    (holds.stands.stands last_moment the_last) (place s answer.register) (subst (λ (now : Register). HoldsRoleIf is_held now caller) (sym last) known) in
    (told.0 ∙ ap (λ (now : Register). verdict_of now (register_at tl t) caller a past) last, told.1, told.2)

-- so it is the verdict on the request, and the cached value is correct at the requested time
pub verdict_told : SoundnessByNumber → (s : State) (caller : Caller) (is_held : Bool) (a : Ask) (now t u : ℤ) → t ≡ asked_moment a now → IsLookedAt t u → (it : Verdict × CachedValue)
    → IsResult (IsVerdictWith caller is_held a (int_lt t now) u) s it → HoldsRoleIf is_held (last_register (decoded_timeline s.now.trees)) caller → (it.0 ≡ verdict_at (decoded_timeline s.now.trees) caller a now) × IsValueFor (register_at (decoded_timeline s.now.trees) t) caller a it.1 × IsMutationValue (register_at (decoded_timeline s.now.trees) last_moment) caller (mutation_of_ask a) it.1
verdict_told look_ups s caller is_held a now t u is_moment place it answer known =
    let tl = decoded_timeline s.now.trees in
    let told = verdict_stands look_ups s caller is_held a (int_lt t now) t u place it answer known in
    (subst (λ (x : ℤ). it.0 ≡ verdict_of (last_register tl) (register_at tl x) caller a (int_lt x now)) is_moment told.0, told.1, told.2)

-- the slice of the tables is that of the latest register; a closed store has none
pub slice_stands : SoundnessByNumber → (needed_only : Bool) (s : State) (caller : Caller) (a : Act) (known : CachedValue) (next : ℕ) (before after : Bool) → (r : Result Register StoreFault) → Closes before after r
    → (before ≡ false → next ≡ (last_register (decoded_timeline s.now.trees)).next) → (before ≡ false → IsMutationValue (register_at (decoded_timeline s.now.trees) last_moment) caller (mutation_of_act a) known)
    → IfOk r (IsResult (λ db it. HoldsOfRegister (λ r. IsMutationValue r caller (mutation_of_act a) known → r.next ≡ next → it ≡ read_slice_of needed_only r caller a) last_moment db) s)
    → IfOk r (λ it. it ≡ read_slice_of needed_only (last_register (decoded_timeline s.now.trees)) caller a)
slice_stands look_ups needed_only s caller a known next true after (Ok it) closes is mutation answer = absurd closes
slice_stands look_ups needed_only s caller a known next false after (Ok it) closes is mutation answer =
    let tl = decoded_timeline s.now.trees in
    let sound = answer.register.sound in
    let holds = answer.register.holds in
    let last : register_at tl last_moment ≡ last_register tl = stays_last tl last_moment sound.rising (last_is_moment tl sound) in
    subst (λ (r : Register). r.next ≡ next → it ≡ read_slice_of needed_only r caller a) last
    (answer.answer holds.listed holds.history holds.holds (register_at tl last_moment) (have_members look_ups tl last_moment sound) (holds.stands.stands last_moment the_last) (mutation refl)) (sym (is refl))
slice_stands look_ups needed_only s caller a known next before after (Err fault) closes is mutation answer = tt
