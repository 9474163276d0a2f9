pub mod Owners
pub mod Host
pub use Rattle.wh_host_model.specs.Owners.{instances, shares, Params, frames, given_of, most_modules, most_instances, AdmitFault, no_module, min_max}
pub use Rattle.wh_host_model.specs.Owners.{swap, memory, segments, admit_rank, Quota, with_quota, ForkFault, call_open, start_failed, not_admitted}
pub use Rattle.wh_host_model.specs.Owners.{other_limit, page_away, fork_rank, IsValidFault, most_open, most_calls, most_fuel, IsArgument}
pub use Rattle.wh_host_model.specs.Owners.{AreArguments, ExportsOwn, InvokeFault, no_export, arguments, queue_full, instance_dead, journal_full, rank}
pub use Rattle.wh_host_model.specs.Owners.{Entry, start_entry, new_entry, is_open, first_open}
