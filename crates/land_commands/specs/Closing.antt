-- Closing the files of a connection.
use Rattle.std.specs.Prelude.{IsTrue}
use Rattle.sqlite.specs.Closing.{IsCopied}
use Rattle.sqlite.specs.Held.{Held}
use Rattle.sqlite_disk.specs.declared.Disk.{Ghosts}
use Rattle.sqlite_disk.specs.declared.Files.{Files}
use Rattle.sqlite_store.specs.declared.store.FileStore.{FileStore}
use Rattle.sqlite_wal.specs.Reads.{AreClean}

-- The files are usable after closing. If their disk is honest, the database file holds the last commit
-- without its log.
abbrev pub IsClosedFile : {D : Type 0} {g : Ghosts D} → Held (FileStore D g) → Type 0
IsClosedFile {D} {g} c =
    (files : Files D) × IsTrue (g.is_usable files.log) × IsTrue (g.is_usable files.db)
    × (AreClean g files.log files.db → IsCopied c files)
