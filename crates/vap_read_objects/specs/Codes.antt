-- How entries are stored.
use Rattle.std.specs.Prelude.{List, refl}
use Rattle.std.specs.Coded.{Coded, code_by, coded×, coded_list}
use Rattle.vap_read.specs.declared.key.Key.{Key}
use Rattle.vap_read.specs.declared.object.Object.{Object}
use Rattle.vap_read_objects.specs.declared.entry.Entry.{Entry}

abbrev pub entry_code : {T : Type 0} → Coded Key → Coded Object → Coded T → Coded (Entry T)
entry_code k o c = code_by (Key × (Object × _)) (coded× k (coded× o c)) (λ e. (e.key, (e.object, e.outcome)))
    (λ p. record { key = p.0; object = p.1.0; outcome = p.1.1 }) (λ _. refl)

abbrev pub entries_code : {T : Type 0} → Coded Key → Coded Object → Coded T → Coded (List (Entry T))
entries_code k o c = coded_list (entry_code k o c)
