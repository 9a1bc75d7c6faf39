-- The number of each request: the interface of who calls through memory.
use Rattle.std.specs.Prelude.{ℕ}
use Rattle.assise_desk.specs.declared.desk_call.ClientCall.{ClientCall}
use Rattle.assise_desk.specs.declared.desk_call.ClientCall.TheVariants.{Create, Mkdir, Read, Write, Truncate, Rename, Unlink, Rmdir, List, Stat, Fsync, Dsync}
use Rattle.assise_desk.specs.declared.desk_call.ClusterCall.{ClusterCall}
use Rattle.assise_desk.specs.declared.desk_call.ClusterCall.TheVariants.{Open, Crash, Fail, Back, Round, SetHot, Raise, SetLink, Redo}
use Rattle.assise_desk.specs.declared.desk_call.ClusterQuery.{ClusterQuery}
use Rattle.assise_desk.specs.declared.desk_call.ClusterQuery.TheVariants.{Legal, Entries, Payload, Phase, Standing, Home, Answered, Replicated}
use Rattle.assise_desk.specs.declared.desk_call.DeskCall.{DeskCall}
use Rattle.assise_desk.specs.declared.desk_call.DeskCall.TheVariants.{Make, Free, Cluster, Query, Client, Print, Page, Listed, Renew}
use Rattle.assise_desk.specs.declared.desk_call.DeskText.{DeskText}
use Rattle.assise_desk.specs.declared.desk_call.DeskText.TheVariants.{History, Tree}

abbrev pub cluster_call_number : ClusterCall → ℕ
cluster_call_number Open = 3
cluster_call_number Crash = 4
cluster_call_number Fail = 5
cluster_call_number Back = 6
cluster_call_number Round = 8
cluster_call_number SetHot = 32
cluster_call_number Raise = 33
cluster_call_number SetLink = 34
cluster_call_number Redo = 35

abbrev pub query_number : ClusterQuery → ℕ
query_number Legal = 7
query_number Entries = 9
query_number Payload = 10
query_number Phase = 11
query_number Standing = 12
query_number Home = 13
query_number Answered = 14
query_number Replicated = 15

abbrev pub client_call_number : ClientCall → ℕ
client_call_number Create = 16
client_call_number Mkdir = 17
client_call_number Read = 18
client_call_number Write = 19
client_call_number Truncate = 20
client_call_number Rename = 21
client_call_number Unlink = 22
client_call_number Rmdir = 23
client_call_number List = 24
client_call_number Stat = 25
client_call_number Fsync = 26
client_call_number Dsync = 27

abbrev pub text_number : DeskText → ℕ
text_number History = 28
text_number Tree = 29

abbrev pub desk_call_number : DeskCall → ℕ
desk_call_number Make = 1
desk_call_number Free = 2
desk_call_number Renew = 36
desk_call_number (Cluster call) = cluster_call_number call
desk_call_number (Query query) = query_number query
desk_call_number (Client call) = client_call_number call
desk_call_number (Print text) = text_number text
desk_call_number Page = 30
desk_call_number Listed = 31
