use Rattle.dsm_flat.proofs.Racing.{start_decides, other_law, load_law, store_law, last_store_law, load_race_law, all_decided}
use Rattle.dsm_flat.proofs.laws.race_law.Goals as goal

pub returns : goal.returns
returns c = record { start = start_decides; other = other_law; load = load_law; store = store_law; last_store_races = last_store_law; load_races = load_race_law; all = all_decided }
