use Rattle.wh_batch.specs.Manifest.{entry_of}
use Rattle.wh_batch.specs.ReportList.{listed_report}
use Rattle.wh_program.proofs.ManifestLemmas.{long_lists, long_queries, cut_entry, cut_report}
use Rattle.wh_program.proofs.laws.long_manifests_are_bad.Goals as goal

pub returns-clause-manifests : goal.returns-clause-manifests
returns-clause-manifests c = long_lists entry_of cut_entry

pub returns-clause-reports : goal.returns-clause-reports
returns-clause-reports c = long_lists listed_report cut_report

pub returns-clause-queries : goal.returns-clause-queries
returns-clause-queries c = long_queries
