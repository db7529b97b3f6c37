-- What the histories of a store are named, and on what their facts depend: that the log of the changes was not read yet.
use Rattle.std.specs.Prelude.{[], List}
use Rattle.sqlite_disk.specs.contracts.start.Wary as wary
use Rattle.sqlite_disk.specs.contracts.start.WaryStart.TheImpl as wary_start
use Rattle.sqlite_disk.specs.contracts.modelled.ModelledDisk.TheImpl as modelled
use Rattle.sqlite_std_file.specs.contracts.host.Host as host
use Rattle.sqlite_std_file.specs.contracts.host.HostCalls.TheImpl as host_calls
use Rattle.up_log.specs.Held.{AreHeld}
use Rattle.up_log.specs.Logs.{IsReaderAt}
use Rattle.up_log.specs.declared.entry.Entry.{Entry}
use Rattle.up_log.specs.declared.setup.Setup.{Setup}
use Rattle.up_places.specs.Places.{no_content}
use Rattle.up.proofs.over_store.run_stored.Given as goal

abbrev pub ghosts-run_named-J-Chronicle : goal.ghosts-run_named-J-Chronicle
ghosts-run_named-J-Chronicle g a = record { history = a.histories.written }

abbrev pub ghosts-run_named-J-Site : goal.ghosts-run_named-J-Site
ghosts-run_named-J-Site g a =
    let setup : Setup = record { lanes = a.store.files.settings.lanes; max_size = a.store.files.settings.max_size } in
    record {
      setup = setup;
      premise = (batches : List (List Entry)) × IsReaderAt (modelled.ghosts host.the_row wary.the_row host_calls.ghosts host_calls.dict wary_start.ghosts wary_start.dict host_calls.dict) a.store.files.changes setup [] batches
          × AreHeld no_content batches;
    }

abbrev pub ghosts-run_named-K-Chronicle : goal.ghosts-run_named-K-Chronicle
ghosts-run_named-K-Chronicle g a = record { history = a.histories.drawn }
