-- What one processor is told, and what it holds.
use Rattle.std.specs.Prelude.{ℕ, ◌+◌, ◌*◌, ◌/◌, ◌%◌, ◌^◌, ◌||◌, Bool, true, false, List, [], ◌∷◌, ◌++◌, replicate, slice_index, slice_set, slice_index_or}
use Rattle.dsm_entry.specs.declared.entry.Entry.{Entry}
use Rattle.dsm_entry.specs.declared.entry.Entry.TheVariants.{Signal, Pass}
use Rattle.dsm_entry.specs.declared.entry.Obj.TheVariants.{Lock}
use Rattle.dsm_isa.specs.ProgramText.{Sizes}
use Rattle.dsm_local.specs.declared.reader.Reader.{Reader}
use Rattle.dsm_local.specs.declared.setting.Setting.{Setting}
use Rattle.dsm_local.specs.Readers.{new_reader, opened, closed}
use Rattle.dsm_words.specs.Place.{Lay, processors}
use Rattle.dsm_words.specs.Pages.{has_page}
use Rattle.dsm_protocol.specs.declared.counts.Counts.{Counts}
use Rattle.dsm_protocol.specs.declared.limits.Limits.{Limits}

-- who works: the layout, its number, the limits
pub record Who : Type 0 where
  pub lay : Lay
  pub p : ℕ
  pub limits : Limits

-- its node
abbrev pub node_of : Who → ℕ
node_of u = u.p / u.lay.procs

-- what a plain reader of its code would be told
abbrev pub setting_of : Who → Setting
setting_of u = record { size = u.lay.pages * u.lay.words; p = u.p; procs = processors u.lay; turns = u.limits.turns }

-- the sizes that a layout was made of
abbrev pub sizes_in : Lay → Sizes
sizes_in l = record { pages = l.pages; words = l.words; locks = l.locks; barriers = l.barriers; flags = l.flags }

-- nothing has happened yet
abbrev pub no_counts : Counts
no_counts = record { read_faults = 0; write_faults = 0; overwrites = 0; merges = 0; twins = 0; flushes = 0; early = 0; notices = 0; unmaps = 0; enters = 0; breaks = 0; unready = 0 }

-- two counts together
abbrev pub added : Counts → Counts → Counts
added a b =
    record {
      read_faults = (a.read_faults + b.read_faults) % 2 ^ 64;
      write_faults = (a.write_faults + b.write_faults) % 2 ^ 64;
      overwrites = (a.overwrites + b.overwrites) % 2 ^ 64;
      merges = (a.merges + b.merges) % 2 ^ 64;
      twins = (a.twins + b.twins) % 2 ^ 64;
      flushes = (a.flushes + b.flushes) % 2 ^ 64;
      early = (a.early + b.early) % 2 ^ 64;
      notices = (a.notices + b.notices) % 2 ^ 64;
      unmaps = (a.unmaps + b.unmaps) % 2 ^ 64;
      enters = (a.enters + b.enters) % 2 ^ 64;
      breaks = (a.breaks + b.breaks) % 2 ^ 64;
      unready = (a.unready + b.unready) % 2 ^ 64;
    }

-- what it holds: its reader of the code, with its registers and its open passes, its mapping of each page (0 none, 1 read, 2 write, 3 wanted), which pages are dirty, its trace, its counts
pub record Own : Type 0 where
  pub reader : Reader
  pub maps : List ℕ
  pub dirty : List Bool
  pub trace : List Entry
  pub counts : Counts

-- at the start it has done nothing; no program has more than 256 pages
abbrev pub new_own : Own
new_own = record { reader = new_reader; maps = replicate 256 0; dirty = replicate 256 false; trace = []; counts = no_counts }

-- a pass of a lock opens it, and a signal of the lock closes it
abbrev pub reader_after : Entry → Reader → Reader
reader_after (Pass (Lock l) c) r = opened r l c
reader_after (Signal (Lock l) k) r = closed r l
reader_after _ r = r

-- an entry more
abbrev pub appended : Own → Entry → Own
appended o e = record o { trace = o.trace ++ e ∷ []; reader = reader_after e o.reader }

-- its mapping of page g, and that mapping become m
abbrev pub mapping : Own → ℕ → ℕ
mapping o g = slice_index o.maps g

abbrev pub mapped : Own → ℕ → ℕ → Own
mapped o g m = record o { maps = slice_set o.maps g m }

-- whether page g is dirty; it joins the dirty set, and leaves it
abbrev pub is_dirty : Own → ℕ → Bool
is_dirty o g = slice_index_or o.dirty g false

abbrev pub soiled : Own → ℕ → Own
soiled o g = record o { dirty = slice_set o.dirty g true }

abbrev pub cleaned : Own → ℕ → Own
cleaned o g = record o { dirty = slice_set o.dirty g false }

-- all pages of a set join the dirty set
abbrev pub with_pages : List Bool → List ℕ → ℕ → List Bool
with_pages [] set g = []
with_pages (d ∷ ds) set g = (d || has_page set g) ∷ with_pages ds set (g + 1)

abbrev pub joined : Own → List ℕ → Own
joined o set = record o { dirty = with_pages o.dirty set 0 }

-- what is counted
pub data Tally : Type 0 where
  Read_faults : Tally
  Write_faults : Tally
  Overwrites : Tally
  Merges : Tally
  Twins : Tally
  Flushes : Tally
  Early : Tally
  Notices : Tally
  Unmaps : Tally
  Enters : Tally
  Breaks : Tally
  Unready : Tally
  deriving IsSet as Tally-set'

-- one more of it
abbrev pub counts_with : Counts → Tally → Counts
counts_with c Read_faults = record c { read_faults = (c.read_faults + 1) % 2 ^ 64 }
counts_with c Write_faults = record c { write_faults = (c.write_faults + 1) % 2 ^ 64 }
counts_with c Overwrites = record c { overwrites = (c.overwrites + 1) % 2 ^ 64 }
counts_with c Merges = record c { merges = (c.merges + 1) % 2 ^ 64 }
counts_with c Twins = record c { twins = (c.twins + 1) % 2 ^ 64 }
counts_with c Flushes = record c { flushes = (c.flushes + 1) % 2 ^ 64 }
counts_with c Early = record c { early = (c.early + 1) % 2 ^ 64 }
counts_with c Notices = record c { notices = (c.notices + 1) % 2 ^ 64 }
counts_with c Unmaps = record c { unmaps = (c.unmaps + 1) % 2 ^ 64 }
counts_with c Enters = record c { enters = (c.enters + 1) % 2 ^ 64 }
counts_with c Breaks = record c { breaks = (c.breaks + 1) % 2 ^ 64 }
counts_with c Unready = record c { unready = (c.unready + 1) % 2 ^ 64 }

abbrev pub counted : Own → Tally → Own
counted o t = record o { counts = counts_with o.counts t }
