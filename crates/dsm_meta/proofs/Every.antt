-- What the laws of runs, and of the table's rows, say of the state behind every list of loose events.
use Rattle.std.proofs.Common.{refl}
use Rattle.dsm_runs.specs.Clusters.{start, after_all_loose}
use Rattle.dsm_runs.proofs.Legality.{every_sync_legal}
use Rattle.dsm_runs.proofs.Mappings.{leaves_other_mappings}
use Rattle.dsm_runs.proofs.Seating.{maps_are_its_own, no_circle}
use Rattle.dsm_ties.specs.Always.{AlwaysLoosely}
use Rattle.dsm_ties.proofs.Along.{tied}
use Rattle.dsm_ties.proofs.Holders.{untouched}
use Rattle.dsm_ties.proofs.Homes.{homes_stay}
use Rattle.dsm_meta.specs.Facts.{SyncIsLegal, OwnMaps, SomeGoesOn, SparesMappings, HomeFixed}

pub sync_is_legal : AlwaysLoosely SyncIsLegal
sync_is_legal s events setup = every_sync_legal s events setup

pub own_maps : AlwaysLoosely OwnMaps
own_maps s events setup p g m at h = maps_are_its_own s events p m setup at g h

pub some_goes_on : AlwaysLoosely SomeGoesOn
some_goes_on s events setup p m at runs = no_circle s events p m setup at runs

pub spares_mappings : AlwaysLoosely SparesMappings
spares_mappings s events setup e any q g ne there page = leaves_other_mappings s events e any q g setup ne there page

pub home_fixed : AlwaysLoosely HomeFixed
home_fixed s events setup =
    record {
      stays = λ g later page some. homes_stay s setup later events (after_all_loose s (start s) events) g refl page some;
      unused = λ n g node page none. (untouched tied s events setup g n page node none).0;
    }
