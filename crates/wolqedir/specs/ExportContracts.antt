-- What an export does: the handle before and after, the code, and what is written for the caller.
use Rattle.std.specs.Prelude.{◌≡◌, ◌≢◌, ◌⊎◌, ℕ, ℤ, List, length, map, option_map, Option, Some, None, Result, Ok, Err, IfOk, IfErr, OnOk, OnErr, IfSome, IfNone, IsSome, IsUtf8, ◌+◌}
use Rattle.wh_space_model.specs.declared.plain.InstId.{InstId}
use Rattle.wh_space_model.specs.Hash.{fnv64}
use Rattle.wh_host_model.specs.Owners.{Params, Quota}
use Rattle.wh_host_model.specs.Host.Worlds.{World, promised}
use Rattle.wh_host_model.specs.Host.Happens.{CallAnswer}
use Rattle.wh_space_model.specs.Forks.{Copies}
use Rattle.wh_space_model.specs.Places.{Enters, Exits}
use Rattle.wh_space_model.specs.Scanning.{IsDistinct}
use Rattle.wh_space_model.specs.Stores.{Epochs}
use Rattle.wh_admit.specs.declared.error.AdmitError.{AdmitError}
use Rattle.wh_admit.specs.declared.fork_error.ForkError.{ForkError}
use Rattle.wh_instance.specs.declared.stages.CallStatus.{CallStatus}
use Rattle.wh_reclaim.specs.Whole.{IsAsWhole}
use Rattle.wh_scan.specs.Pass.{HasSoManyPages, MayPass, PassesOverAll, ScansAll}
use Rattle.wh_host.specs.declared.error.HostError.{HostError}
use Rattle.wh_host.specs.declared.error.HostError.TheVariants.{Memory}
use Rattle.wh_host.specs.declared.error.ModuleError.{ModuleError}
use Rattle.wh_host.specs.declared.error.UnloadError.{UnloadError}
use Rattle.wh_host.specs.declared.parts.ModuleId.{ModuleId}
use Rattle.wh_host.specs.Admitting.{AnswersAdmit}
use Rattle.wh_host.specs.CallRequests.{AnswersCall, AnswersInvoke, AnswersInvokeAt}
use Rattle.wh_host.specs.Backing.{KeepsBacking}
use Rattle.wh_host.specs.declared.counts.HostCounts.{HostCounts}
use Rattle.wh_host.specs.HostCounting.{CountsScan}
use Rattle.wh_host.specs.Hosting.{HostState}
use Rattle.wh_host.specs.ForkAnswers.{AnswersFork, claim_by}
use Rattle.wh_host.specs.Loading.{AnswersLoad}
use Rattle.wh_host.specs.Paging.{MovesOnly}
use Rattle.wh_host.specs.declared.report.InstanceReport.{InstanceReport}
use Rattle.wh_host.specs.LiveOutputs.{SaysNoInstance}
use Rattle.wh_host.specs.Reporting.{ReportState, ReportsHost, ReportsInstance, ReportsUsage, UsageState, view_row}
use Rattle.wh_host.specs.Sharing.{CanScan}
use Rattle.wh_host.specs.Telling.{TellsChargesOf, TellsOf}
use Rattle.wh_host.specs.Unloading.{AnswersUnload}
use Rattle.wh_hand.specs.HandStates.{HandState, IsSoundByEvents}
use Rattle.wh_hand.specs.ReleasedOutputs.{AnswersReleaseHere}
use Rattle.wh_hand.specs.RunCounting.{CountsRun}
use Rattle.wh_hand.specs.Running.{RunsAll}
use Rattle.wh_hand.specs.declared.running.Ran.{Ran}
use Rattle.wolqedir.specs.declared.shapes.RawInstance.{RawInstance}
use Rattle.wolqedir.specs.declared.shapes.Progress.{Progress}
use Rattle.wolqedir.specs.declared.shapes.RawStatus.{RawStatus}
use Rattle.wolqedir.specs.declared.shapes.RawCounts.{RawCounts}
use Rattle.wolqedir.specs.declared.shapes.RawReport.{RawReport}
use Rattle.wolqedir.specs.declared.shapes.RawInstanceReport.{RawInstanceReport}
use Rattle.wolqedir.specs.Codes.{admit_error_code, code_by, fork_error_code, host_error_code, large_code, memory_code, module_error_code, name_code, none_code, unknown_code, unload_error_code}
use Rattle.wolqedir.specs.Rooms.{laid_in}
use Rattle.wolqedir.specs.Shapes.{instance_of, progress_as, raw_counts_of, raw_report_of, raw_row_of, shown_status}

-- ---- the handle

-- This code is answered, the handle holds what it held, and what could be written for the caller is as it was.
abbrev pub IsLeft : Option HandState → ℕ → ℕ → Option HandState → (untouched : Type 0) → Type 0
IsLeft held wanted code held2 untouched = (code ≡ wanted) × (held2 ≡ held) × untouched

-- At any code but 0 the handle holds what it held, and what could be written for the caller is as it was. It held no host, and
-- that is answered; or it held one, and holds one to which this has led, and to which events alone lead.
abbrev pub ServesHandle : Option HandState → (HandState → HandState → Type 0) → ℕ → Option HandState → Type 0 → Type 0
ServesHandle held does code held2 untouched =
    (code ≢ 0 → (held2 ≡ held) × untouched)
    × (((held ≡ None) × (code ≡ none_code))
    ⊎ ((h : HandState) × (h2 : HandState) × (held ≡ Some h) × (held2 ≡ Some h2) × IsSoundByEvents h2.host
    × does h h2))

-- Or it is left for want of room.
abbrev pub ServesWithRoom : Option HandState → (HandState → HandState → Type 0) → ℕ → Option HandState → Type 0 → Type 0
ServesWithRoom held does code held2 untouched =
    IsLeft held memory_code code held2 untouched ⊎ ServesHandle held does code held2 untouched

-- It is left so where the name isn't UTF-8.
abbrev pub ServesNamed : List ℕ → Option HandState → (HandState → HandState → Type 0) → ℕ → Option HandState → Type 0
    → Type 0
ServesNamed name held does code held2 untouched =
    ((¬ (IsUtf8 name)) × IsLeft held name_code code held2 untouched)
    ⊎ (IsUtf8 name × ServesWithRoom held does code held2 untouched)

-- What is written for the caller is this, or as it was.
abbrev pub TellsCaller : {A B E : Type 0} → (A → B) → Result A E → B → B → Type 0
TellsCaller told (Ok a) before after = after ≡ told a
TellsCaller told (Err e) before after = after ≡ before

-- ---- what comes, and modules that go

pub record ExportLoads (bytes : List ℕ) (number number2 code : ℕ) (h h2 : HandState) : Type 0 where
  pub answer : Result ModuleId ModuleError
  pub answered : code ≡ code_by module_error_code answer
  pub loads : AnswersLoad h.host bytes answer h2.host
  pub err : OnErr answer (h2 ≡ h)
  pub backing : KeepsBacking h.host.space h2.host.space
  pub output : h2.output ≡ h.output
  pub counts : h2.host.counts ≡ h.host.counts
  pub told : TellsCaller (λ id. id.number) answer number number2

pub record ExportUnloads (of : ℕ) (code : ℕ) (h h2 : HandState) : Type 0 where
  pub answer : Result Unit UnloadError
  pub answered : code ≡ code_by unload_error_code answer
  pub unloads : AnswersUnload h.host of answer h2.host
  pub err : OnErr answer (h2 ≡ h)
  pub backing : KeepsBacking h.host.space h2.host.space
  pub memory : h2.host.space ≡ h.host.space
  pub output : h2.output ≡ h.output
  pub counts : h2.host.counts ≡ h.host.counts

pub record ExportAdmits (of : ℕ) (p : Params) (instance instance2 : RawInstance) (code : ℕ) (h h2 : HandState) : Type 0 where
  pub answer : Result InstId AdmitError
  pub answered : code ≡ code_by admit_error_code answer
  pub admits : AnswersAdmit h.host of p answer h2.host
  pub err : OnErr answer (h2 ≡ h)
  pub backing : KeepsBacking h.host.space h2.host.space
  pub memory : IfOk answer (λ id. (size : ℕ) × Enters h.host.space id.place (promised id.number p) size h2.host.space)
  pub output : h2.output ≡ h.output
  pub counts : h2.host.counts ≡ h.host.counts
  pub told : TellsCaller instance_of answer instance instance2

pub record ExportForks (id : InstId) (q : Quota) (instance instance2 : RawInstance) (code : ℕ) (h h2 : HandState) : Type 0 where
  pub answer : Result InstId ForkError
  pub answered : code ≡ code_by fork_error_code answer
  pub forks : AnswersFork h.host id q answer h2.host
  pub err : OnErr answer (h2 ≡ h)
  pub backing : KeepsBacking h.host.space h2.host.space
  pub memory : IfOk answer (λ copy. Copies h.host.space id.place copy.place (claim_by copy.number q) h2.host.space)
  pub output : h2.output ≡ h.output
  pub counts : h2.host.counts ≡ h.host.counts
  pub told : TellsCaller instance_of answer instance instance2

-- ---- what is asked

pub record ExportInvokes (id : InstId) (name : List ℕ) (args : List ℤ) (fuel call call2 code : ℕ) (h h2 : HandState) : Type 0
  where
    pub answer : Result ℕ HostError
    pub answered : code ≡ code_by host_error_code answer
    pub asks : AnswersInvoke h.host id name args fuel answer h2.host
    pub err : OnErr answer (h2 ≡ h)
    pub backing : KeepsBacking h.host.space h2.host.space
    pub output : h2.output ≡ h.output
    pub counts : OnOk answer (h2.host.counts ≡ h.host.counts)
    pub told : TellsCaller (λ at. at) answer call call2

-- by the place of a function among those that the instance's module exports
pub record ExportInvokesAt (id : InstId) (at : ℕ) (args : List ℤ) (fuel call call2 code : ℕ) (h h2 : HandState) : Type 0 where
  pub answer : Result ℕ HostError
  pub answered : code ≡ code_by host_error_code answer
  pub asks : AnswersInvokeAt h.host id at args fuel answer h2.host
  pub err : OnErr answer (h2 ≡ h)
  pub backing : KeepsBacking h.host.space h2.host.space
  pub output : h2.output ≡ h.output
  pub counts : OnOk answer (h2.host.counts ≡ h.host.counts)
  pub told : TellsCaller (λ at. at) answer call call2

-- of the present call of an instance
pub record ExportAsks (request : World → CallAnswer → World → Type 0) (counted : HostState → HostState → HostCounts) (code : ℕ) (h h2 : HandState)
    : Type 0 where
  pub answer : Result Unit HostError
  pub answered : code ≡ code_by host_error_code answer
  pub asks : AnswersCall h.host request answer h2.host
  pub err : OnErr answer (h2 ≡ h)
  pub backing : KeepsBacking h.host.space h2.host.space
  pub output : h2.output ≡ h.output
  pub counts : OnOk answer (h2.host.counts ≡ counted h.host h2.host)

pub record ExportReleases (id : InstId) (len len2 code : ℕ) (h h2 : HandState) : Type 0 where
  pub answer : Result Unit HostError
  pub answered : code ≡ code_by host_error_code answer
  pub goes : AnswersReleaseHere h id answer h2
  pub err : OnErr answer (h2 ≡ h)
  pub backing : KeepsBacking h.host.space h2.host.space
  pub memory : OnOk answer (Exits h.host.space id.place h2.host.space)
  pub counts : h2.host.counts ≡ h.host.counts
  pub told : TellsCaller (λ _. length h2.output) answer len len2

-- ---- what goes on

-- turns of 1000 charges at most
pub record ExportRuns (charges : ℕ) (progress : Progress) (code : ℕ) (h h2 : HandState) : Type 0 where
  pub answered : code ≡ 0
  pub ran : Ran
  pub runs : RunsAll 1000 h.host charges ran h2.host
  pub whole : IsAsWhole h.host.space h2.host.space
  pub output : h2.output ≡ h.output
  pub counts : CountsRun h.host.counts ran.charges h2.host.counts
  pub told : progress ≡ progress_as ran

-- it was done, or frames and slots are too many
abbrev pub scan_code : Option ℕ → ℕ
scan_code (Some offered) = 0
scan_code None = large_code

pub record ExportScans (code : ℕ) (h h2 : HandState) : Type 0 where
  pub offered : Option ℕ
  pub answered : code ≡ scan_code offered
  pub moves : MovesOnly h.host h2.host
  pub backing : KeepsBacking h.host.space h2.host.space
  pub done : CanScan h.host.space → IsSome offered
  pub none : IfNone offered (h2 ≡ h)
  pub offers : IfSome offered (HasSoManyPages h.host.space)
  pub scans : IfSome offered (λ _. ScansAll fnv64 h.host.space h2.host.space)
  pub full : IfSome offered (λ _. MayPass fnv64 h.host.space → PassesOverAll fnv64 h.host.space h2.host.space)
  pub counts : IfSome offered (λ _. MayPass fnv64 h.host.space → (all : List (List ℕ)) → IsDistinct h2.host.space all
      → length all + length h2.host.space.pool.free ≡ length h2.host.space.pool.frames)
  pub counted : IfSome offered (λ n. CountsScan fnv64 h.host n h2.host)
  pub output : h2.output ≡ h.output

pub record ExportBeginsEpoch (code : ℕ) (h h2 : HandState) : Type 0 where
  pub answered : code ≡ 0
  pub moves : MovesOnly h.host h2.host
  pub clears : Epochs h.host.space h2.host.space
  pub backing : KeepsBacking h.host.space h2.host.space
  pub output : h2.output ≡ h.output
  pub counts : h2.host.counts ≡ h.host.counts

-- ---- what is told

-- how far the call is, and its charges; or there is none
abbrev pub ShowsStatus : Option (CallStatus × ℕ) → RawStatus → ℕ → RawStatus → Type 0
ShowsStatus None before code after = (code ≡ unknown_code) × (after ≡ before)
ShowsStatus (Some told) before code after = (code ≡ 0) × (after ≡ shown_status told.0 told.1)

pub record ExportTellsStatus (id : InstId) (at : ℕ) (status : RawStatus) (code : ℕ) (status2 : RawStatus) (h h2 : HandState) : Type 0
  where
    pub same : h2 ≡ h
    pub told : Option (CallStatus × ℕ)
    pub tells : TellsOf h.host id at (option_map (λ t. t.0) told)
    pub charges : TellsChargesOf h.host id at (option_map (λ t. t.1) told)
    pub shows : ShowsStatus told status code status2

-- the output of the instance that was released last
pub record ExportTellsTaken (room room2 : List ℕ) (len2 code : ℕ) (h h2 : HandState) : Type 0 where
  pub answered : code ≡ 0
  pub same : h2 ≡ h
  pub laid : room2 ≡ laid_in h.output room
  pub counted : len2 ≡ length h.output

-- how the host is used
pub record ExportTellsReport (report2 : RawReport) (code : ℕ) (h h2 : HandState) : Type 0 where
  pub answered : code ≡ 0
  pub same : h2 ≡ h
  pub usage : UsageState
  pub reports : ReportsUsage h.host usage
  pub told : report2 ≡ raw_report_of usage

-- what it has counted
pub record ExportTellsCounts (counts2 : RawCounts) (code : ℕ) (h h2 : HandState) : Type 0 where
  pub answered : code ≡ 0
  pub same : h2 ≡ h
  pub told : counts2 ≡ raw_counts_of h.host.counts

-- what an instance has of it; or there is no such one
pub record ExportTellsInstance (id : InstId) (row row2 : RawInstanceReport) (code : ℕ) (h h2 : HandState) : Type 0 where
  pub answer : Result InstanceReport HostError
  pub answered : code ≡ code_by host_error_code answer
  pub same : h2 ≡ h
  pub ok : IfOk answer (λ told. ReportsInstance h.host id (view_row told))
  pub err : IfErr answer (SaysNoInstance h.host id)
  pub told : TellsCaller (λ told. raw_row_of (view_row told)) answer row row2

-- what it has of its instances, by number
pub record ExportTellsInstances (room room2 : List RawInstanceReport) (len len2 code : ℕ) (h h2 : HandState) : Type 0 where
  pub answer : Result ReportState HostError
  pub answered : code ≡ code_by host_error_code answer
  pub same : h2 ≡ h
  pub ok : IfOk answer (ReportsHost h.host)
  pub err : IfErr answer (λ error. error ≡ Memory)
  pub laid : TellsCaller (λ r. laid_in (map raw_row_of r.instances) room) answer room room2
  pub counted : TellsCaller (λ r. length r.instances) answer len len2
