use Rattle.assise_desk.proofs.Common.{refl, ap, subst, answers_alone, request_calls, has_no_cluster, request_makes, request_manages, request_prints}
use Rattle.assise_desk.proofs.Common.{request_queries, request_renews, request_shows_listed, owned, ShowsListed}
use Rattle.assise_desk.specs.declared.desk_call.DeskCall.TheVariants.{Client, Cluster, Listed, Make, Print, Query, Renew}
use Rattle.assise_desk.proofs.DeskSteps.{number_is, owned_is}
use Rattle.assise_desk.proofs.caller_desk.answer_request.Goals as goal

pub returns-in-Some-Make-clause-answered : goal.returns-in-Some-Make-clause-answered
returns-in-Some-Make-clause-answered c =
    answers_alone (request_makes (number_is c.in-Some-Make.field-0 Make c.args.desk.now.request.call c.in-Some-Make.field-0-is c.in-Some-Make.ensures)
    c.make.ensures refl) record { bytes = refl; stays = refl }

pub returns-in-None-files-clause-answered : goal.returns-in-None-files-clause-answered
returns-in-None-files-clause-answered c =
    answers_alone (has_no_cluster (Cluster c.in-Some-Cluster.call)
    (number_is c.in-Some-Cluster.field-0 (Cluster c.in-Some-Cluster.call) c.args.desk.now.request.call c.in-Some-Cluster.field-0-is c.in-Some-Cluster.ensures)
    tt
    (ap owned c.in-None-files.is) (ap owned c.in-None-files.is) refl refl) record { bytes = refl; stays = refl }

pub returns-in-Some-clause-answered : goal.returns-in-Some-clause-answered
returns-in-Some-clause-answered c =
    request_manages c.in-Some-Cluster.call c.deref_mut.result.now c.manage.new.files
    (number_is c.in-Some-Cluster.field-0 (Cluster c.in-Some-Cluster.call) c.args.desk.now.request.call c.in-Some-Cluster.field-0-is c.in-Some-Cluster.ensures)
    record {
      from = owned_is c.args.desk.now.files c.in-Some.files c.deref_mut.result.now c.in-Some.is c.deref_mut.ensures.value;
      leaves = refl;
      turns = c.manage.ensures.turns;
      text = refl;
    } c.manage.ensures.does c.manage.ensures.bytes c.manage.ensures.links refl

pub returns-in-None-files-2-clause-answered : goal.returns-in-None-files-2-clause-answered
returns-in-None-files-2-clause-answered c =
    answers_alone (has_no_cluster (Query c.in-Some-Query.query)
    (number_is c.in-Some-Query.field-0 (Query c.in-Some-Query.query) c.args.desk.now.request.call c.in-Some-Query.field-0-is c.in-Some-Query.ensures) tt
    (ap owned c.in-None-files-2.is) (ap owned c.in-None-files-2.is) refl refl) record { bytes = refl; stays = refl }

pub returns-in-Some-files-clause-answered : goal.returns-in-Some-files-clause-answered
returns-in-Some-files-clause-answered c =
    let there = owned_is c.args.desk.now.files c.in-Some-files.files c.deref.result.now c.in-Some-files.is c.deref.ensures in
    request_queries c.in-Some-Query.query c.deref.result.now
    (number_is c.in-Some-Query.field-0 (Query c.in-Some-Query.query) c.args.desk.now.request.call c.in-Some-Query.field-0-is c.in-Some-Query.ensures)
    there there c.tell.ensures record { bytes = refl; stays = refl } refl

pub returns-in-None-files-3-clause-answered : goal.returns-in-None-files-3-clause-answered
returns-in-None-files-3-clause-answered c =
    answers_alone (has_no_cluster (Client c.in-Some-Client.call)
    (number_is c.in-Some-Client.field-0 (Client c.in-Some-Client.call) c.args.desk.now.request.call c.in-Some-Client.field-0-is c.in-Some-Client.ensures) tt
    (ap owned c.in-None-files-3.is) (ap owned c.in-None-files-3.is) refl refl) record { bytes = refl; stays = refl }

pub returns-in-Some-files-2-clause-answered : goal.returns-in-Some-files-2-clause-answered
returns-in-Some-files-2-clause-answered c =
    request_calls c.in-Some-Client.call c.deref_mut-in-Some-files-2.result.now c.serve_client.new.files
    (number_is c.in-Some-Client.field-0 (Client c.in-Some-Client.call) c.args.desk.now.request.call c.in-Some-Client.field-0-is c.in-Some-Client.ensures)
    record {
      from = owned_is c.args.desk.now.files c.in-Some-files-2.files c.deref_mut-in-Some-files-2.result.now c.in-Some-files-2.is
          c.deref_mut-in-Some-files-2.ensures.value;
      leaves = refl;
      turns = c.serve_client.ensures.turns;
      text = refl;
    } c.serve_client.ensures.served

pub returns-in-Some-Print-clause-answered : goal.returns-in-Some-Print-clause-answered
returns-in-Some-Print-clause-answered c =
    request_prints c.in-Some-Print.text
    (number_is c.in-Some-Print.field-0 (Print c.in-Some-Print.text) c.args.desk.now.request.call c.in-Some-Print.field-0-is c.in-Some-Print.ensures)
    refl c.keep.ensures record { bytes = refl; stays = refl }

pub returns-in-None-files-4-clause-answered : goal.returns-in-None-files-4-clause-answered
returns-in-None-files-4-clause-answered c =
    answers_alone (has_no_cluster Renew
    (number_is c.in-Some-Renew.field-0 Renew c.args.desk.now.request.call c.in-Some-Renew.field-0-is c.in-Some-Renew.ensures) tt
    (ap owned c.in-None-files-4.is) (ap owned c.in-None-files-4.is) refl refl) record { bytes = refl; stays = refl }

pub returns-in-Some-files-3-clause-answered : goal.returns-in-Some-files-3-clause-answered
returns-in-Some-files-3-clause-answered c =
    request_renews c.deref_mut-in-Some-files-3.result.now c.renew_cluster.new.files
    (number_is c.in-Some-Renew.field-0 Renew c.args.desk.now.request.call c.in-Some-Renew.field-0-is c.in-Some-Renew.ensures)
    record {
      from = owned_is c.args.desk.now.files c.in-Some-files-3.files c.deref_mut-in-Some-files-3.result.now c.in-Some-files-3.is
          c.deref_mut-in-Some-files-3.ensures.value;
      leaves = refl;
      turns = c.renew_cluster.ensures.turns;
      text = refl;
    } c.renew_cluster.ensures.renews c.renew_cluster.ensures.links record { bytes = refl; stays = refl }

pub returns-in-None-files-5-clause-answered : goal.returns-in-None-files-5-clause-answered
returns-in-None-files-5-clause-answered c =
    answers_alone (has_no_cluster Listed
    (number_is c.in-Some-Listed.field-0 Listed c.args.desk.now.request.call c.in-Some-Listed.field-0-is c.in-Some-Listed.ensures) tt
    (ap owned c.in-None-files-5.is) (ap owned c.in-None-files-5.is) refl refl) record { bytes = refl; stays = refl }

pub returns-in-Some-files-4-clause-answered : goal.returns-in-Some-files-4-clause-answered
returns-in-Some-files-4-clause-answered c =
    let there = owned_is c.args.desk.now.files c.in-Some-files-4.files c.deref-in-Some-files-4.result.now c.in-Some-files-4.is c.deref-in-Some-files-4.ensures
    in
    let d = c.args.desk.now in
    request_shows_listed c.deref-in-Some-files-4.result.now
    (number_is c.in-Some-Listed.field-0 Listed c.args.desk.now.request.call c.in-Some-Listed.field-0-is c.in-Some-Listed.ensures) there there
    (subst (λ h. ShowsListed h d.request.second d.request.first c.show_listed.result d.bytes c.show_listed.new.out d.stands c.show_listed.new.stands)
    c.history.ensures c.show_listed.ensures) refl
