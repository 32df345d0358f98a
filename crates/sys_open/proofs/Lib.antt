mod FaultLemmas
mod Listed
mod Lists
mod Orders
mod Walks
mod ReachedPlaces
mod Working
mod Clearings
mod Holding
mod FolderLemmas
mod SpotLemmas
mod ManyPaths
mod ManyWalks
mod Firsts
mod StageLemmas
mod Checking
mod Configs
mod RefLists
mod Stores
mod BootLists
mod Laying
mod StageClearing
mod SeveralPaths
mod Gathering
mod Stays
pub mod LeftOvers
pub mod Bounds
mod Within
mod ChangedPlaces
mod Configuring
mod Arranging
mod Beginning
mod Crashing
pub mod Goods
mod Reopening
mod ListKept
mod LeftClearing
mod DeploymentsKept
mod EntryPlaces
mod Booting
mod Leasts
mod StoreKept
mod Opens
pub mod Exclusive
